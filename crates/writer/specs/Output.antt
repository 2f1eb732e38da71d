-- What is written into a caller's bytes. Assumes nothing.
use Rattle.std.specs.Prelude.{◌≡◌, ℕ, ◌+◌, ◌<◌, ◌≤◌, List, [], ◌∷◌, ◌++◌, length, take, drop, Some, None, Option}
use Rattle.forms.specs.Format.{fields}

-- xs with ys in the place of what stands from `at` on.
unfoldable pub overwrite : List ℕ → ℕ → List ℕ → List ℕ
overwrite xs at ys = take at xs ++ (ys ++ drop (at + length ys) xs)

-- ys were written into xs from `at` on: there was room, now holds the bytes after that, and end is the place after ys.
pub record Wrote (xs : List ℕ) (at : ℕ) (ys now : List ℕ) (end : ℕ) : Type 0 where
  pub fits : at + length ys ≤ length xs
  pub ends : end ≡ at + length ys
  pub bytes : now ≡ overwrite xs at ys

-- ys were written whole; or there was no room for them, and all is as it was.
abbrev pub WriteDone : List ℕ → ℕ → List ℕ → List ℕ → Option ℕ → Type 0
WriteDone xs at ys now (Some end) = Wrote xs at ys now end
WriteDone xs at ys now None = (length xs < at + length ys) × (now ≡ xs)

-- A keyword, its numbers, and the end of the line.
abbrev pub line_of : List ℕ → List ℕ → List ℕ
line_of key ns = key ++ (fields ns ++ (10 ∷ []))
