-- A table in rows: one for each place or mode, with a cell for each of 16 modes. Assumes nothing.
use Rattle.std.specs.Prelude.{◌≡◌, ℕ, ◌<◌, List, [], ◌∷◌, ◌++◌, length, get_or}

-- The cells of the rows, one row after the other.
abbrev pub cells : {A : Type 0} → List (List A) → List A
cells [] = []
cells (r ∷ rs) = r ++ cells rs

-- Each row has 16 cells.
abbrev pub AllRows : {A : Type 0} → List (List A) → Type 0
AllRows rows = (k : ℕ) → k < length rows → length (get_or rows k []) ≡ 16
