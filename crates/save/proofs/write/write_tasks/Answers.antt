use Rattle.std.proofs.Common.{ℕ, ◌+◌, ◌<◌, List, length, sym, subst, arith}
use Rattle.table.specs.Tables.{items}
use Rattle.writer.specs.Output.{Wrote}
use Rattle.writer.proofs.Writing.{wrote_none, wrote_more}
use Rattle.save.proofs.Spelling.{text_more, text_more_long, text_room}
use Rattle.save.proofs.write.write_tasks.Goals as goal

pub loop-place-init : goal.loop-place-init
loop-place-init c = wrote_none c.args.out.now 0 (omega arith)

pub write_task-end-requires : goal.write_task-end-requires
write_task-end-requires c =
    let is = items c.args.table.now in
    let k = c.loop-place.place in
    let lt : k < length is = omega (arith, c.len-place-end.ensures) in
    record { there = lt; room = omega (arith, c.loop-place.invariant.ends, text_more_long is k lt, text_room is (k + 1), c.requires, c.loop-place.auto.out) }

pub loop-place-preserved : goal.loop-place-preserved
loop-place-preserved c =
    let is = items c.args.table.now in
    let k = c.loop-place.place in
    let lt : k < length is = omega (arith, c.len-place-end.ensures) in
    subst (λ (l : List ℕ). Wrote c.args.out.now 0 l c.write_task-end.new.out c.write_task-end.result)
    (sym (text_more is k lt))
    (wrote_more c.loop-place.invariant c.write_task-end.ensures)
