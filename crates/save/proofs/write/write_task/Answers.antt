use Rattle.std.proofs.Common.{◌≡◌, ℕ, ◌+◌, List, sym, ap, ◌∙◌, subst, subst₂, arith}
use Rattle.table.specs.Tables.{items}
use Rattle.forms.specs.declared.form.Form.{Form}
use Rattle.writer.specs.Output.{Wrote}
use Rattle.writer.proofs.Writing.{wrote_none}
use Rattle.save.specs.Texts.{spelled}
use Rattle.save.specs.Slots.{slot_of}
use Rattle.save.proofs.Slots.{slots_to, slots_none, slots_all}
use Rattle.save.proofs.Spelling.{slot_room, slot_wrote, slot_passed}
use Rattle.save.proofs.Rights.{table_rights}
use Rattle.save.proofs.write.write_task.Goals as goal

pub loop-slot-init : goal.loop-slot-init
loop-slot-init c =
    subst (λ (l : List Form). Wrote c.args.out.now c.args.at (spelled l) c.args.out.now c.args.at)
    (sym (slots_none (slot_of (items c.args.table.now) c.args.place)))
    (wrote_none c.args.out.now c.args.at (omega (arith, c.requires.room)))

pub write_line-end-requires : goal.write_line-end-requires
write_line-end-requires c =
    let is = items c.args.table.now in
    let all = slots_all is c.args.place c.requires.there (table_rights c.args.table.now) in
    let room = slot_room (slot_of is c.args.place) c.loop-slot.slot c.in-Some.form _ c.in-Some.ensures (omega arith) all in
    omega (arith, room, c.loop-slot.invariant.ends, c.loop-slot.auto.out, c.requires.room)

pub loop-slot-preserved : goal.loop-slot-preserved
loop-slot-preserved c =
    let f = slot_of (items c.args.table.now) c.args.place in
    let n = c.loop-slot.slot in
    let Goal : List ℕ → ℕ → Type 0 = λ now end. Wrote c.args.out.now c.args.at (spelled (slots_to f (n + 1))) now end in
    elim c.match-line_at.branch [
      | goal.in-Some w ↦
          subst₂ Goal (sym w.out-is) (sym w.end-is)
          (slot_wrote f n w.in-Some.form c.args.out.now c.loop-slot.out w.write_line-end.new.out c.args.at c.loop-slot.end w.write_line-end.result w.in-Some.ensures c.loop-slot.invariant w.write_line-end.ensures)
      | goal.in_default w ↦
          subst₂ Goal (sym w.out-is) (sym w.end-is)
          (slot_passed f n c.args.out.now c.loop-slot.out c.args.at c.loop-slot.end w.in_default.ensures c.loop-slot.invariant)
    ]

pub returns : goal.returns
returns c =
    let is = items c.args.table.now in
    let z : c.loop-slot.slot ≡ 273 = omega arith in
    subst (λ (l : List Form). Wrote c.args.out.now c.args.at (spelled l) c.loop-slot.out c.loop-slot.end)
    (ap (slots_to (slot_of is c.args.place)) z ∙ slots_all is c.args.place c.requires.there (table_rights c.args.table.now))
    c.loop-slot.invariant
