-- The memory that is lent. Assumes nothing.
use Rattle.std.specs.Prelude.{ℕ, ◌+◌, ◌-◌, ◌*◌, ◌%◌, ◌^◌, List, fold}
use Rattle.calls.specs.declared.call.Length.{Length}
use Rattle.calls.specs.declared.call.Length.TheVariants.{Short, Fit, Long}

-- A digest with one more cell.
abbrev pub mixed : ℕ → ℕ → ℕ
mixed value cell = (value * 16777619 % 2 ^ 32 + cell) % 2 ^ 32

-- The digest over cells in their order.
unfoldable pub digest_of : List ℕ → ℕ
digest_of cells = fold mixed 1 cells

-- How many cells are lent of a sheet or a list.
abbrev pub cells_of : Length → ℕ → ℕ
cells_of Short asked = asked - 1
cells_of Fit asked = asked
cells_of Long asked = asked + 16

-- How many bytes are lent of an output for a text of that length.
abbrev pub bytes_of : Length → ℕ → ℕ
bytes_of Short text = text - 1
bytes_of Fit text = text
bytes_of Long text = 65535
