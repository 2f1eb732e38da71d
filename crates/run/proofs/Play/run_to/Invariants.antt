use Rattle.std.proofs.Common.{◌≡◌, ◌-◌}
use Rattle.run.specs.Course.{course}
use Rattle.run.specs.Ticks.{after_ticks}
use Rattle.run.proofs.Play.run_to.Given as goal

-- The ticks that are left lead to where all of them do.
abbrev pub invariant-loop-self : goal.invariant-loop-self
invariant-loop-self g l =
    let m = g.L.Line.meaning l.line in
    after_ticks m (l.end - l.self.clock) (course l.self) ≡ after_ticks m (l.end - l.initial.self.clock) (course l.initial.self)

abbrev pub decreases-loop-self : goal.decreases-loop-self
decreases-loop-self g l = l.end - l.self.clock
