use Rattle.table.specs.Tables.{items}
use Rattle.writer.specs.Output.{Wrote}
use Rattle.save.specs.Texts.{spelled}
use Rattle.save.specs.Slots.{slot_of}
use Rattle.save.proofs.Slots.{slots_to}
use Rattle.save.proofs.write.write_task.Given as goal

abbrev pub invariant-loop-slot : goal.invariant-loop-slot
invariant-loop-slot l = Wrote l.initial.out l.at (spelled (slots_to (slot_of (items l.table) l.place) l.slot)) l.out l.end
