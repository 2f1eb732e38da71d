-- Tables that ask for no more than others. Assumes nothing.
use Rattle.std.specs.Prelude.{◌≡◌, ℕ, ◌<◌, List, length}
use Rattle.line.specs.Lighter.{EasedLine}
use Rattle.table.specs.Items.{Item, line_of, number_at}

-- Each task of a table stood in another one under the same number, at the place that `from` gives, in the same order,
-- and asks for no more than it did there.
pub record EasedTable (is was : List Item) : Type 0 where
  pub from : ℕ → ℕ
  pub numbers : (k : ℕ) → k < length is → number_at is k ≡ number_at was (from k)
  pub line : EasedLine from (line_of is) (line_of was)
