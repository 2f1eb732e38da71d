use Rattle.std.proofs.Common.{◌-◌, arith}
use Rattle.run.specs.Course.{course}
use Rattle.run.proofs.Calms.{ended_late, ended_on_clock}
use Rattle.run.proofs.Play.run_to.Goals as goal

pub returns-else-is_none : goal.returns-else-is_none
returns-else-is_none g c =
    let m = g.L.Line.meaning c.args.line.now in
    let e = ended_late m (c.args.end - c.loop-self.self.clock) (c.args.end - c.args.self.now.clock) (course c.loop-self.self) (course c.args.self.now) c.if-is_none.ensures c.loop-self.invariant in
    record { later = e.later; state = e.state }

pub returns-after-loop-self : goal.returns-after-loop-self
returns-after-loop-self g c =
    let m = g.L.Line.meaning c.args.line.now in
    let e = ended_on_clock m (c.args.end - c.loop-self.self.clock) (c.args.end - c.args.self.now.clock) (course c.loop-self.self) (course c.args.self.now) (omega arith) c.loop-self.invariant in
    record { later = e.later; state = e.state }
