use Rattle.std.proofs.Common.{take}
use Rattle.forms.specs.Format.{fields}
use Rattle.writer.specs.Output.{Wrote}
use Rattle.writer.proofs.writes.write_words.Given as goal

abbrev pub invariant-loop-n : goal.invariant-loop-n
invariant-loop-n l = Wrote l.initial.out l.initial.place (fields (take l.n-index l.numbers)) l.out l.place
