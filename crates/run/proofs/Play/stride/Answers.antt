use Rattle.std.proofs.Common.{arith}
use Rattle.run.specs.Course.{course}
use Rattle.run.proofs.Calms.{calm_within, strides_tick, strides_calm}
use Rattle.run.proofs.Play.stride.Goals as goal

pub run_on-requires : goal.run_on-requires
run_on-requires g c =
    let w = calm_within (g.L.Line.meaning c.args.line.now) (course c.args.self.now) c.args.limit in
    let f = c.requires.fits in
    omega (arith, c.calm-calm.ensures)

pub returns-then-calm-eq0 : goal.returns-then-calm-eq0
returns-then-calm-eq0 g c =
    strides_tick (g.L.Line.meaning c.args.line.now) c.args.limit (course c.args.self.now) (course c.tick.new.self) c.requires.on c.requires.some c.tick.ensures

pub returns-else-calm-eq0 : goal.returns-else-calm-eq0
returns-else-calm-eq0 g c =
    strides_calm (g.L.Line.meaning c.args.line.now) c.args.limit c.calm-calm.result (course c.args.self.now) (course c.run_on.new.self) c.requires.on c.calm-calm.ensures (omega (arith, c.if-calm-eq0.false)) c.run_on.ensures
