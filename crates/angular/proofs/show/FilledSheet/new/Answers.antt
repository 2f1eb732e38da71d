use Rattle.modes.specs.Graphs.{plan}
use Rattle.modes.specs.Plans.{graph_of}
use Rattle.modes.proofs.Plans.{graph_laws}
use Rattle.angular.proofs.Sheets.{filled_best}
use Rattle.angular.proofs.show.FilledSheet.new.Goals as goal

pub invariant_of-result-2 : goal.invariant_of-result-2
invariant_of-result-2 c =
    let g = c.args.graph.now in
    record { some = c.requires.some; exact = filled_best (graph_of (plan g)) c.args.cells.now (graph_laws g c.requires.some) c.requires.filled }
