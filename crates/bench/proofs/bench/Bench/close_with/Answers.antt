use Rattle.std.proofs.Common.{length, ap}
use Rattle.std.proofs.lemmas.Result.{err_from_is_err_and}
use Rattle.bench.specs.State.{state, with_desk}
use Rattle.bench.proofs.Closing.{draft_refuses}
use Rattle.bench.proofs.bench.Bench.close_with.Goals as goal

pub returns-in_err-close : goal.returns-in_err-close
returns-in_err-close c =
    let p = err_from_is_err_and c.from_residual-in_err-close.result c.from_residual-in_err-close.ensures.1 in
    let s = state c.args.self.now in
    let d = c.in_err-close.ensures in
    rw (p.1, p.2) (
      draft_refuses s c.args.draft.now.bench (length c.args.sheet.now) _ _ _ c.in_ok-check_sheet.ensures c.in_ok-check_ticket.ensures d.0,
      ap (with_desk s) d.1,
      d.2,
    )
