use Rattle.std.proofs.Common.{sym, subst, arith}
use Rattle.std.proofs.lemmas.List.{take_all}
use Rattle.forms.specs.Format.{fields}
use Rattle.writer.specs.Output.{Wrote}
use Rattle.writer.proofs.Writing.{wrote_more, wrote_none, fields_more, fields_room, line_long}
use Rattle.writer.proofs.writes.write_words.Goals as goal
use Rattle.writer.proofs.writes.write_words.Goals.{After-loop-n}

pub loop-n-init : goal.loop-n-init
loop-n-init c = wrote_none _ _ (omega (arith, line_long c.args.key.now c.args.numbers.now))

pub write_field-place-requires : goal.write_field-place-requires
write_field-place-requires c =
    let a = line_long c.args.key.now c.args.numbers.now in
    let b = fields_room c.args.numbers.now c.loop-n.n-index (omega arith) in
    omega (arith, c.loop-n.invariant.ends)

pub loop-n-preserved : goal.loop-n-preserved
loop-n-preserved c =
    subst (λ l. Wrote c.write_bytes-place.new.out c.write_bytes-place.result l c.write_field-place.new.out c.write_field-place.result)
    (sym (fields_more c.args.numbers.now c.loop-n.n-index c.loop-n-test.true))
    (wrote_more c.loop-n.invariant c.write_field-place.ensures)

all_fields : (c : After-loop-n) → Wrote c.write_bytes-place.new.out c.write_bytes-place.result (fields c.args.numbers.now) c.loop-n.out c.loop-n.place
all_fields c =
    subst (λ l. Wrote c.write_bytes-place.new.out c.write_bytes-place.result (fields l) c.loop-n.out c.loop-n.place)
    (take_all c.loop-n.n-index c.args.numbers.now c.loop-n-test.false)
    c.loop-n.invariant

pub returns : goal.returns
returns c =
    let a = line_long c.args.key.now c.args.numbers.now in
    wrote_more
    (record { fits = omega arith; ends = c.write_bytes-place.ensures.end; bytes = c.write_bytes-place.ensures.bytes })
    (wrote_more (all_fields (goal.at.returns c).After-loop-n) c.write_byte.ensures)
