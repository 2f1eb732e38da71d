-- What the work sheet holds. Assumes nothing.
use Rattle.std.specs.Prelude.{◌≡◌, ℕ, ◌+◌, ◌*◌, ◌<◌, ◌≤◌, List, Some, slice_index}
use Rattle.line.specs.Meaning.{Graph}
use Rattle.angular.specs.Greatest.{Greatest}
use Rattle.angular.specs.Best.{best, most_of}

-- The cell of the mode m and the window w.
abbrev pub cell_at : List ℕ → ℕ → ℕ → ℕ
cell_at sheet m w = slice_index sheet (m * 1001 + w)

-- For each of the first n modes, the cell of the window w has the greatest work.
abbrev pub ColumnTo : Graph → List ℕ → ℕ → ℕ → Type 0
ColumnTo G sheet w n = (m : ℕ) → m < n → Greatest G m w (cell_at sheet m w)

-- For each mode and each window below w, the cell has the greatest work.
abbrev pub FilledTo : Graph → List ℕ → ℕ → Type 0
FilledTo G sheet w = (m u : ℕ) → m < G.modes → u < w → Greatest G m u (cell_at sheet m u)

-- The sheet is filled for a graph: each cell of a mode and a window from 0 to 1,000 has the greatest work
-- of a walk that begins in the mode and fits the window.
abbrev pub Filled : Graph → List ℕ → Type 0
Filled G sheet = FilledTo G sheet 1001

-- Each cell of a mode and a window from 0 to 1,000 has the work that is computed.
abbrev pub Exact : Graph → List ℕ → Type 0
Exact G sheet = (m w : ℕ) → m < G.modes → w ≤ 1000 → cell_at sheet m w ≡ best G w m w

-- Past the rows of n modes every cell is as it was.
abbrev pub Kept : ℕ → List ℕ → List ℕ → Type 0
Kept n was is = (k : ℕ) → n * 1001 ≤ k → slice_index is k ≡ slice_index was k

-- Below w the row has the greatest work of any walk.
abbrev pub RowTo : Graph → List ℕ → ℕ → Type 0
RowTo G row w = (u : ℕ) → u < w → slice_index row u ≡ most_of G u

-- From m with w left one can go on to the mode b, where u is left and the work is v.
pub record Onward (G : Graph) (F : ℕ → ℕ → ℕ) (m w v b u : ℕ) : Type 0 where
  pub mode : b < G.modes
  pub gap : ℕ
  pub linked : G.gap m b ≡ Some gap
  pub left : gap + u ≡ w
  pub some : 0 < u
  pub value : F b u ≡ v
