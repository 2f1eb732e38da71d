use Rattle.std.proofs.Common.{length}
use Rattle.modes.specs.Plans.{graph_of}
use Rattle.modes.specs.Graphs.{plan}
use Rattle.angular.specs.Sheets.{FilledTo, Kept}
use Rattle.angular.proofs.sheet.fill.Given as goal

abbrev pub invariant-loop-w : goal.invariant-loop-w
invariant-loop-w l = record { filled : FilledTo (graph_of (plan l.graph)) l.cells l.w; kept : Kept (length (plan l.graph).modes) l.initial.cells l.cells }
