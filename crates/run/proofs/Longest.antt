-- The longest times in rows. Assumes nothing.
use Rattle.std.proofs.Common.{◌≡◌, ℕ, ◌+◌, ◌*◌, ◌<◌, max, ltb, List, [], length, get_or, set, sym, ap, ◌∙◌}
use Rattle.std.proofs.lemmas.Bool.{cond-true, lt-ltb}
use Rattle.line.specs.Rows.{cells, AllRows}
use Rattle.line.proofs.Rows.{cell_at, set_cell}
use Rattle.run.specs.Ticks.{raised}

-- A longest time that is written in its row is kept in its cell.
pub row_raised : (rows : List (List ℕ)) → AllRows rows → (p i took w : ℕ) → p < length rows → i < 16 → w ≡ max (get_or (get_or rows p []) i 0) took
    → cells (set rows p (set (get_or rows p []) i w)) ≡ raised p i took (cells rows)
row_raised rows all p i took w within few e =
    set_cell rows all p i w within few ∙ ap (set (cells rows) (p * 16 + i)) (e ∙ ap (λ t. max t took) (sym (cell_at rows all p i 0 within few)))
    ∙ sym (cond-true (ltb i 16) _ _ (lt-ltb _ _ few))
