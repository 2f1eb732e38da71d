-- The bound of a mode: the least window, up to its deadline, that holds one job of the mode and all that the
-- places above can ask for. Assumes nothing.
use Rattle.std.specs.Prelude.{ℕ, zero, suc, ◌+◌, ◌<◌, ◌≤◌, Bool, cond, Some, None, Option, nat_le}
use Rattle.line.specs.Meaning.{Meaning, task_at, cost_in, deadline_in, most_in}

-- The most work that the places above p can ask for in a window of w ticks.
abbrev pub above : Meaning → ℕ → ℕ → ℕ
above m w zero = 0
above m w (suc k) = above m w k + most_in (task_at m k) w

-- What a window of w ticks has to hold until a job of mode i at place p is done: its cost, and the work above it.
abbrev pub need : Meaning → ℕ → ℕ → ℕ → ℕ
need m p i w = cost_in (task_at m p) i + above m w p

-- The bound of a mode is w: a window within the deadline that holds what it has to, and no shorter one does.
pub record Bound (m : Meaning) (p i w : ℕ) : Type 0 where
  pub some : 1 ≤ w
  pub within : w ≤ deadline_in (task_at m p) i
  pub enough : need m p i w ≤ w
  pub least : (v : ℕ) → 1 ≤ v → v < w → v < need m p i v

-- A mode has no bound: no window within the deadline holds what it has to.
abbrev pub NoBound : Meaning → ℕ → ℕ → Type 0
NoBound m p i = (w : ℕ) → 1 ≤ w → w ≤ deadline_in (task_at m p) i → w < need m p i w

-- The first of n numbers from k on that passes a test.
abbrev pub first_from : (ℕ → Bool) → ℕ → ℕ → Option ℕ
first_from test zero k = None
first_from test (suc n) k = cond (test k) (Some k) (first_from test n (suc k))

-- Whether a window holds what it has to.
abbrev pub holds : Meaning → ℕ → ℕ → ℕ → Bool
holds m p i w = nat_le (need m p i w) w

-- The bound of a mode, by trying one window after another.
unfoldable pub bound_of : Meaning → ℕ → ℕ → Option ℕ
bound_of m p i = first_from (holds m p i) (deadline_in (task_at m p) i) 1
