use Rattle.modes.specs.Plans.{graph_of}
use Rattle.modes.specs.Graphs.{plan}
use Rattle.angular.specs.Sheets.{RowTo}
use Rattle.angular.proofs.show.FilledSheet.write_row.Given as goal

abbrev pub invariant-loop-w : goal.invariant-loop-w
invariant-loop-w l = RowTo (graph_of (plan l.self.sheet.graph.now)) l.row l.w
