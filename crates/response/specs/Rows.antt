-- The row of sums that the judge keeps, and the cells as it goes from place to place. Assumes nothing.
use Rattle.std.specs.Prelude.{◌≡◌, ℕ, ◌+◌, ◌*◌, ◌/◌, ◌%◌, ◌<◌, ◌≤◌, List, ◌++◌, length, drop, replicate, Some, None, Option, slice_index}
use Rattle.std.specs.Option.{unwrap_or}
use Rattle.line.specs.Meaning.{Meaning, task_at, modes_in, most_in}
use Rattle.response.specs.Bounds.{above, bound_of}
use Rattle.response.specs.Verdicts.{over_in, first_over}

-- Cell w of the row holds the work above p in a window of w ticks.
pub record Sums (m : Meaning) (p : ℕ) (sums : List ℕ) : Type 0 where
  pub long : length sums ≡ 1001
  pub each : (w : ℕ) → w ≤ 1000 → slice_index sums w ≡ above m w p

-- A sum in a window with the work of place p added.
abbrev pub added_at : Meaning → ℕ → ℕ → ℕ → ℕ
added_at m p w sum = sum + most_in (task_at m p) w

-- The least window within a deadline that holds a cost and what the row has for it, or that there is none.
abbrev pub Least : List ℕ → ℕ → ℕ → Option ℕ → Type 0
Least sums cost deadline (Some w) =
    (1 ≤ w) × (w ≤ deadline) × (cost + slice_index sums w ≤ w) × ((v : ℕ) → 1 ≤ v → v < w → v < cost + slice_index sums v)
Least sums cost deadline None = (w : ℕ) → 1 ≤ w → w ≤ deadline → w < cost + slice_index sums w

-- The first n cells set to 0, and later ones as they were.
unfoldable pub cleared_to : ℕ → List ℕ → List ℕ
cleared_to n cells = replicate n 0 ++ drop n cells

-- What cell n is to show: the bound of its mode, or 0 where there is none.
abbrev pub bound_at : Meaning → ℕ → ℕ
bound_at m n = unwrap_or (bound_of m (n / 16) (n % 16)) 0

-- The cells from a on and before b have come to show their modes' bounds, and every other one is as it was.
pub record Shows (m : Meaning) (a b : ℕ) (was is : List ℕ) : Type 0 where
  pub inside : (n : ℕ) → a ≤ n → n < b → slice_index is n ≡ bound_at m n
  pub before : (n : ℕ) → n < a → slice_index is n ≡ slice_index was n
  pub after : (n : ℕ) → b ≤ n → slice_index is n ≡ slice_index was n

-- How many modes of a place are judged with a bound: those before the first one without, or all.
abbrev pub reached : Meaning → ℕ → ℕ
reached m p = unwrap_or (over_in m p) (modes_in (task_at m p))

-- The cell at which the judge stops, given the first place and mode without a bound: that mode's, or where there is
-- none the one past the last place.
abbrev pub stop_cell : Meaning → Option (ℕ × ℕ) → ℕ
stop_cell m None = m.count * 16
stop_cell m (Some x) = x.0 * 16 + x.1

-- The cell at which it stops on a line.
abbrev pub reached_cell : Meaning → ℕ
reached_cell m = stop_cell m (first_over m)
