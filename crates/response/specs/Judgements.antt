-- What a verdict and its cells say, in the words of the test. Assumes nothing.
use Rattle.std.specs.Prelude.{◌≡◌, ℕ, ◌+◌, ◌*◌, ◌<◌, ◌⊎◌, List, ◌≢◌, slice_index}
use Rattle.line.specs.Meaning.{Meaning, task_at, modes_in}
use Rattle.response.specs.declared.Verdict.{Verdict}
use Rattle.response.specs.declared.Verdict.TheVariants.{Fits, Over}
use Rattle.response.specs.Bounds.{Bound, NoBound}

-- The line has a mode i at place p.
pub record Mode (m : Meaning) (p i : ℕ) : Type 0 where
  pub place : p < m.count
  pub mode : i < modes_in (task_at m p)

-- Mode j of place q comes before mode i of place p: by place, then by mode.
abbrev pub Before : ℕ → ℕ → ℕ → ℕ → Type 0
Before q j p i = (q < p) ⊎ ((q ≡ p) × (j < i))

-- Of the first 256 cells, those of the modes that P picks hold their bounds, and every other one holds 0.
pub record Holds (m : Meaning) (P : ℕ → ℕ → Type 0) (cells : List ℕ) : Type 0 where
  pub bounds : (p i : ℕ) → Mode m p i → P p i → Bound m p i (slice_index cells (p * 16 + i))
  pub zeros : (n : ℕ) → n < 256 → ((p i : ℕ) → Mode m p i → P p i → n ≢ p * 16 + i) → slice_index cells n ≡ 0

-- The line is over at mode i of place p: it is the first mode that has no bound.
pub record Stops (m : Meaning) (p i : ℕ) (cells : List ℕ) : Type 0 where
  pub there : Mode m p i
  pub none : NoBound m p i
  pub shown : Holds m (λ q j. Before q j p i) cells

-- A verdict with the cells that go with it: the line fits and every mode's bound is shown, or it is over at the
-- first mode that has none and the bounds before that are shown.
abbrev pub Judged : Meaning → Verdict ℕ → List ℕ → Type 0
Judged m Fits cells = Holds m (λ _ _. Unit {0}) cells
Judged m (Over p i) cells = Stops m p i cells
