use Rattle.std.proofs.Common.{◌≡◌, ◌-◌, length, take}
use Rattle.text.specs.Readers.{at}
use Rattle.forms.specs.Lines.{numbers_of}
use Rattle.forms.proofs.Gathering.{behind}
use Rattle.text.proofs.reader.Reader.numbers.Given as goal

-- What is read in all is what is still to be read, behind the numbers that were.
abbrev pub invariant-loop-number : goal.invariant-loop-number
invariant-loop-number g l =
    (length l.number-items ≡ g.row.N)
    × (behind (take l.number-index l.number-items) (numbers_of (g.row.N - l.number-index) (at l.self)) ≡ numbers_of g.row.N (at l.initial.self))
