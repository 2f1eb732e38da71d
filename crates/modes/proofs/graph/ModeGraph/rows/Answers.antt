use Rattle.std.proofs.Common.{rules}
use Rattle.modes.proofs.Plans.{rows_there}
use Rattle.modes.proofs.graph.ModeGraph.rows.Goals as goal

pub slice_bounds-result-end : goal.slice_bounds-result-end
slice_bounds-result-end c = rows_there c.args.self.now _ _ (search rules) (search rules)
