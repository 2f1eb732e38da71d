use Rattle.std.proofs.Common.{◌<◌, length, sym, ◌∙◌, arith}
use Rattle.table.specs.Tables.{items}
use Rattle.save.proofs.Spelling.{text_more_long, last_more}
use Rattle.save.proofs.measure.measure.Goals as goal

pub loop-place-preserved : goal.loop-place-preserved
loop-place-preserved c =
    let is = items c.args.table.now in
    let k = c.loop-place.place in
    let lt : k < length is = omega (arith, c.len-place-end.ensures) in (
      omega (arith, text_more_long is k lt, c.loop-place.invariant.0, c.task_len-len.ensures.is),
      c.loop-place.invariant.0 ∙ sym (last_more is k lt),
      omega (arith, c.loop-place.invariant.2, c.task_len-len.ensures.short),
    )
