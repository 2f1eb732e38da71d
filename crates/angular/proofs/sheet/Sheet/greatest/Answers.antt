use Rattle.std.proofs.Common.{◌+◌, sym, subst, arith}
use Rattle.line.specs.Lawful.{GraphLaws}
use Rattle.angular.specs.Greatest.{Greatest}
use Rattle.modes.specs.Plans.{graph_of}
use Rattle.modes.specs.Graphs.{plan}
use Rattle.modes.proofs.Plans.{graph_laws}
use Rattle.angular.proofs.Sheets.{cell_is}
use Rattle.angular.specs.Walks.{greatest_none, greatest_bounded}
use Rattle.angular.proofs.sheet.Sheet.greatest.Goals as goal

laws : (c : goal.After-follow) → GraphLaws (graph_of (plan c.args.self.now.graph.now))
laws c = graph_laws c.args.self.now.graph.now (omega (arith, c.requires.from))

is : (c : goal.After-follow) → Greatest (graph_of (plan c.args.self.now.graph.now)) c.args.m c.args.w (c.cost.result + c.follow.result)
is c =
    let s = c.args.self.now in
    cell_is (graph_of (plan s.graph.now)) s.cells.now c.args.m c.args.w _ _ (laws c) c.requires.from (omega arith) c.requires.before c.cost.ensures c.follow.ensures

pub overflow_add-result : goal.overflow_add-result
overflow_add-result c = omega (arith, greatest_bounded _ _ _ _ (laws c) (is c), c.requires.window)

pub returns-then-w-eq0 : goal.returns-then-w-eq0
returns-then-w-eq0 c = subst (λ w. Greatest (graph_of (plan c.args.self.now.graph.now)) c.args.m w 0) (sym c.if-w-eq0.true) (greatest_none _ _)

pub returns-else-w-eq0 : goal.returns-else-w-eq0
returns-else-w-eq0 c = is c
