-- The rows of a table, one after the other. Assumes nothing.
use Rattle.std.proofs.Common.{◌≡◌, ℕ, zero, suc, ◌+◌, ◌-◌, ◌*◌, ◌<◌, List, [], ◌∷◌, ◌++◌, length, get_or, set, replicate, sym, refl, ap, ◌∙◌, inl, inr, arith, length-append, length-set, get_or-set_other, get_or-set_same}
use Rattle.std.proofs.lemmas.List.{length-replicate, replicate-append-replicate, get_or-replicate, get_or_append_left, get_or-append_right, set-append_left, set-append_right}
use Rattle.std.proofs.lemmas.Bool.{cases_eq}
use Rattle.line.specs.Rows.{cells, AllRows}

rest : {A : Type 0} (r : List A) (rs : List (List A)) → AllRows (r ∷ rs) → AllRows rs
rest r rs all k h = all (suc k) (omega arith)

first : {A : Type 0} (r : List A) (rs : List (List A)) → AllRows (r ∷ rs) → length r ≡ 16
first r rs all = all 0 (omega arith)

pub length-cells : {A : Type 0} (rows : List (List A)) → AllRows rows → length (cells rows) ≡ length rows * 16
length-cells [] all = refl
length-cells (r ∷ rs) all = omega (arith, length-append r (cells rs), first r rs all, length-cells rs (rest r rs all))

-- A cell of all is that of its row.
pub cell_at : {A : Type 0} (rows : List (List A)) → AllRows rows → (a b : ℕ) (d : A) → a < length rows → b < 16 → get_or (cells rows) (a * 16 + b) d ≡ get_or (get_or rows a []) b d
cell_at [] all a b d la lb = absurd (omega arith)
cell_at (r ∷ rs) all zero b d la lb =
    let e : zero * 16 + b ≡ b = omega arith in
    ap (λ k. get_or (r ++ cells rs) k d) e ∙ get_or_append_left r (cells rs) d b (omega (arith, first r rs all))
cell_at (r ∷ rs) all (suc a) b d la lb =
    let e : suc a * 16 + b - 16 ≡ a * 16 + b = omega arith in
    get_or-append_right r (cells rs) 16 (suc a * 16 + b) d (first r rs all) (omega arith) ∙ ap (λ k. get_or (cells rs) k d) e
    ∙ cell_at rs (rest r rs all) a b d (omega arith) lb

-- A cell that is written is written in its row.
pub set_cell : {A : Type 0} (rows : List (List A)) → AllRows rows → (a b : ℕ) (x : A) → a < length rows → b < 16
    → cells (set rows a (set (get_or rows a []) b x)) ≡ set (cells rows) (a * 16 + b) x
set_cell [] all a b x la lb = absurd (omega arith)
set_cell (r ∷ rs) all zero b x la lb =
    let e : b ≡ zero * 16 + b = omega arith in
    sym (set-append_left r (cells rs) b x (omega (arith, first r rs all))) ∙ ap (λ k. set (r ++ cells rs) k x) e
set_cell (r ∷ rs) all (suc a) b x la lb =
    let e : a * 16 + b ≡ suc a * 16 + b - 16 = omega arith in
    ap (λ xs. r ++ xs) (set_cell rs (rest r rs all) a b x (omega arith) lb ∙ ap (λ k. set (cells rs) k x) e)
    ∙ sym (set-append_right r (cells rs) 16 (suc a * 16 + b) x (first r rs all) (omega arith))

pub set_row : {A : Type 0} (rows : List (List A)) → AllRows rows → (a : ℕ) (row : List A) → length row ≡ 16 → AllRows (set rows a row)
set_row rows all a row long k h = elim (cases_eq k a) [
  | inl e ↦
      let la : a < length rows = omega (arith, length-set rows a row) in
      ap (λ i. length (get_or (set rows a row) i [])) e ∙ ap length (get_or-set_same rows a row [] la) ∙ long
  | inr n ↦ ap length (get_or-set_other rows a k row [] n) ∙ all k (omega (arith, length-set rows a row))
]

-- Rows in which each cell is the same.
pub blank_cells : {A : Type 0} (x : A) (n : ℕ) → cells (replicate n (replicate 16 x)) ≡ replicate (n * 16) x
blank_cells x zero = refl
blank_cells x (suc n) =
    let e : 16 + n * 16 ≡ suc n * 16 = omega arith in
    ap (λ xs. replicate 16 x ++ xs) (blank_cells x n) ∙ replicate-append-replicate 16 (n * 16) x ∙ ap (λ k. replicate k x) e

pub blank_rows : {A : Type 0} (x : A) (n : ℕ) → AllRows (replicate n (replicate 16 x))
blank_rows x n k h =
    ap length (get_or-replicate n k (replicate 16 x) [] (omega (arith, length-replicate n (replicate 16 x)))) ∙ length-replicate 16 x
