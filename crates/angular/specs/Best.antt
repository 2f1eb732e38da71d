-- The greatest work, computed. Assumes nothing.
use Rattle.std.specs.Prelude.{ℕ, zero, suc, ◌+◌, ◌-◌, max, cond, Some, None, Option, nat_lt}
use Rattle.line.specs.Meaning.{Graph}

-- The greatest of f 0, .., f (k - 1), and 0 where there is none.
abbrev pub over : (ℕ → ℕ) → ℕ → ℕ
over f zero = 0
over f (suc k) = max (over f k) (f k)

-- What a gap leaves of w, if it leaves any.
abbrev pub left : Option ℕ → ℕ → Option ℕ
left None w = None
left (Some g) w = cond (nat_lt g w) (Some (w - g)) None

-- What a next mode adds over a gap with w left: its work f in the window that remains, if any does.
abbrev pub offer : Option ℕ → ℕ → (ℕ → ℕ) → ℕ
offer None w f = 0
offer (Some g) w f = cond (nat_lt g w) (f (w - g)) 0

-- The greatest work after m with w left, from the greatest work F of each mode in each shorter window.
abbrev pub next : Graph → (ℕ → ℕ → ℕ) → ℕ → ℕ → ℕ
next G F m w = over (λ b. offer (G.gap m b) w (F b)) G.modes

-- The greatest work from the mode m in a window of w, by at most k steps: a cost and what can follow it.
unfoldable pub best : Graph → ℕ → ℕ → ℕ → ℕ
best G zero m w = 0
best G (suc k) m zero = 0
best G (suc k) m (suc w) = G.cost m + next G (best G k) m (suc w)

-- The greatest work from any mode.
unfoldable pub most_of : Graph → ℕ → ℕ
most_of G w = over (λ m. best G w m w) G.modes
