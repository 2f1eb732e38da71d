use Rattle.std.proofs.Common.{take}
use Rattle.table.specs.Tables.{items}
use Rattle.writer.specs.Output.{Wrote}
use Rattle.save.specs.Texts.{forms_of, spelled}
use Rattle.save.proofs.write.write_tasks.Given as goal

abbrev pub invariant-loop-place : goal.invariant-loop-place
invariant-loop-place l = Wrote l.initial.out 0 (spelled (forms_of (take l.place (items l.table)))) l.out l.end
