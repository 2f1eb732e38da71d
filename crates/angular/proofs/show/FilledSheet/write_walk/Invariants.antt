use Rattle.modes.specs.Graphs.{plan}
use Rattle.angular.proofs.Shows.{Shows_on}
use Rattle.angular.proofs.show.FilledSheet.write_walk.Given as goal

-- The walk ends in the list as it is, or goes on from a mode with something left.
abbrev pub invariant-loop-n : goal.invariant-loop-n
invariant-loop-n l = Shows_on (plan l.self.sheet.graph.now) l.self.sheet.cells.now l.fn.window l.initial.list l.list l.n l.at
