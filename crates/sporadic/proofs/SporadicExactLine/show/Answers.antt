use Rattle.std.proofs.Common.{length, sym, refl, arith}
use Rattle.sporadic.specs.Sporadics.{show_passed, even_shown}
use Rattle.sporadic.proofs.SporadicExactLine.show.Goals as goal

pub returns : goal.returns
returns c =
    let s = c.args.self.now in
    let passed = c.in_ok-may_show.ensures in
    let ok = show_passed 1 c.args.place c.args.window (length c.args.sheet.now) (length c.args.list.now) _ passed in (
      sym passed,
      even_shown s.cost s.period s.deadline (omega arith) c.args.window c.releases-jobs.result ok.1 c.args.list.now _ c.releases-jobs.ensures c.write_jobs.ensures,
      refl,
    )
