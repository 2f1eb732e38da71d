use Rattle.std.proofs.Common.{length}
use Rattle.modes.specs.Plans.{graph_of}
use Rattle.modes.specs.Graphs.{plan}
use Rattle.angular.specs.Sheets.{ColumnTo, FilledTo, Kept}
use Rattle.angular.proofs.sheet.column.Given as goal

abbrev pub invariant-loop-m : goal.invariant-loop-m
invariant-loop-m l = record {
  before : FilledTo (graph_of (plan l.graph)) l.cells l.w;
  here : ColumnTo (graph_of (plan l.graph)) l.cells l.w l.m;
  kept : Kept (length (plan l.graph).modes) l.initial.cells l.cells;
}
