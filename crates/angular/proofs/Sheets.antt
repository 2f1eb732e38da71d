-- What a write of a cell does to the sheet. Assumes nothing.
use Rattle.std.proofs.Common.{◌≡◌, ℕ, ◌+◌, ◌*◌, ◌<◌, ◌≤◌, ◌≢◌, List, length, set, sym, ◌∙◌, subst, inl, inr, arith}
use Rattle.std.proofs.lemmas.List.{get_or-set_same, get_or-set_other}
use Rattle.std.proofs.lemmas.Bool.{cases_eq}
use Rattle.line.specs.Meaning.{Graph}
use Rattle.line.specs.Lawful.{GraphLaws}
use Rattle.angular.specs.Greatest.{Greatest}
use Rattle.angular.specs.Best.{next, best}
use Rattle.angular.specs.Sheets.{cell_at, Exact, Filled, FilledTo, Kept}
use Rattle.angular.specs.Walks.{step, gaps_some, single, best_greatest}

-- The value of a cell, from the columns before it.
pub cell_is : (G : Graph) (sheet : List ℕ) (m w x y : ℕ) → GraphLaws G → m < G.modes → 0 < w → FilledTo G sheet w
    → x ≡ G.cost m → y ≡ next G (cell_at sheet) m w → Greatest G m w (x + y)
cell_is G sheet m w x y s lm pos f ex ey = rw (ex, ey) (step G (cell_at sheet) m w lm pos (gaps_some G s m lm) f)

cell_other : (sheet : List ℕ) (m w b u v : ℕ) → b * 1001 + u ≢ m * 1001 + w → cell_at (set sheet (m * 1001 + w) v) b u ≡ cell_at sheet b u
cell_other sheet m w b u v ne = get_or-set_other sheet (m * 1001 + w) (b * 1001 + u) v 0 ne

module _ (G : Graph) (sheet : List ℕ) (m w v : ℕ) (lw : w ≤ 1000) where
  pub put_before : FilledTo G sheet w → FilledTo G (set sheet (m * 1001 + w) v) w
  put_before f b u lb lu = subst (Greatest G b u) (sym (cell_other sheet m w b u v (omega arith))) (f b u lb lu)

  pub put_row : m * 1001 + w < length sheet → ((i : ℕ) → i < m → Greatest G i w (cell_at sheet i w)) → Greatest G m w v
      → (i : ℕ) → i < m + 1 → Greatest G i w (cell_at (set sheet (m * 1001 + w) v) i w)
  put_row lt row here i h = elim (cases_eq m i) [
    | inl e ↦ subst (λ j. Greatest G j w (cell_at (set sheet (m * 1001 + w) v) j w)) e
        (subst (Greatest G m w) (sym (get_or-set_same sheet (m * 1001 + w) v 0 lt)) here)
    | inr n ↦ subst (Greatest G i w) (sym (cell_other sheet m w i w v (omega arith))) (row i (omega arith))
  ]

  pub put_kept : (was : List ℕ) → m < G.modes → Kept G.modes was sheet → Kept G.modes was (set sheet (m * 1001 + w) v)
  put_kept was lm kept k h = get_or-set_other sheet (m * 1001 + w) k v 0 (omega arith) ∙ kept k h

pub filled_more : (G : Graph) (sheet : List ℕ) (w : ℕ) → FilledTo G sheet w → ((i : ℕ) → i < G.modes → Greatest G i w (cell_at sheet i w)) → FilledTo G sheet (w + 1)
filled_more G sheet w f row m u lm lu = elim (cases_eq w u) [
  | inl e ↦ subst (λ x. Greatest G m x (cell_at sheet m x)) e (row m lm)
  | inr n ↦ f m u lm (omega arith)
]

-- ---- what a filled sheet is
-- A cell of a filled sheet has the computed work.
pub filled_best : (G : Graph) (sheet : List ℕ) → GraphLaws G → Filled G sheet → (m w : ℕ) → m < G.modes → w ≤ 1000 → cell_at sheet m w ≡ best G w m w
filled_best G sheet s f m w lm lw = single G m w _ _ (f m w lm (omega arith)) (best_greatest G w m w s lm (omega arith))

-- And cells that have the computed work are filled.
pub filled_from : (G : Graph) (sheet : List ℕ) → GraphLaws G → Exact G sheet → Filled G sheet
filled_from G sheet s e m w lm lw = subst (Greatest G m w) (sym (e m w lm (omega arith))) (best_greatest G w m w s lm (omega arith))

-- Two sheets that are filled for one graph agree at its cells.
pub filled_single : (G : Graph) (s t : List ℕ) → Filled G s → Filled G t → (m w : ℕ) → m < G.modes → w ≤ 1000 → cell_at s m w ≡ cell_at t m w
filled_single G s t f g m w lm lw = single G m w _ _ (f m w lm (omega arith)) (g m w lm (omega arith))

-- A cell is the cost and what can follow.
pub cell_split : (G : Graph) (sheet : List ℕ) (m w : ℕ) → GraphLaws G → Filled G sheet → w ≤ 1000 → 0 < w → m < G.modes
    → cell_at sheet m w ≡ G.cost m + next G (cell_at sheet) m w
cell_split G sheet m w s f lw pos lm =
    single G m w _ _ (f m w lm (omega arith)) (step G (cell_at sheet) m w lm pos (gaps_some G s m lm) (λ b u lb lu. f b u lb (omega arith)))
