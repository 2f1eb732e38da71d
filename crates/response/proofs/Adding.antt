-- The row of sums, cell by cell, and the search against it. Assumes nothing.
use Rattle.std.proofs.Common.{◌≡◌, ℕ, ◌+◌, ◌≤◌, List, length, get_or, replicate, Some, None, Option, ap, ◌∙◌, arith}
use Rattle.std.proofs.lemmas.List.{get_or-replicate, length-replicate}
use Rattle.line.specs.Meaning.{Meaning, task_at, cost_in, deadline_in}
use Rattle.line.specs.Lawful.{Lawful}
use Rattle.line.proofs.Facts.{deadline_at}
use Rattle.response.specs.Bounds.{above, need, bound_of}
use Rattle.response.specs.Rows.{Sums, added_at, Least}
use Rattle.response.proofs.Bounding.{above_le, above_next, found_bound, found_none}

-- A row of zeros has the work above the first place.
pub sums_none : (m : Meaning) (s : List ℕ) → s ≡ replicate 1001 0 → Sums m 0 s
sums_none m s e = record {
  long = ap length e ∙ length-replicate {A = ℕ} 1001 0;
  each = λ w h. ap (λ x. get_or x w 0) e ∙ get_or-replicate 1001 w 0 0 (omega arith);
}

-- One more cell has taken the work of place p, which stands just above q, and the later ones have not.
module _ (m : Meaning) (p q w : ℕ) (s : List ℕ) (next : p + 1 ≡ q) (old : get_or s w 0 ≡ above m w p) where
  sum_here : added_at m p w (get_or s w 0) ≡ above m w q
  sum_here = omega (arith, old, above_next m w p, ap (above m w) next)

  pub sum_fits : Lawful m → q ≤ 16 → added_at m p w (get_or s w 0) ≤ 16000000
  sum_fits laws le = omega (arith, sum_here, above_le m laws w q)

-- No cell of the row is large.
pub sums_light : (m : Meaning) → Lawful m → (p : ℕ) → p ≤ 16 → (s : List ℕ) → Sums m p s → (w : ℕ) → w ≤ 1000 → get_or s w 0 ≤ 16000000
sums_light m laws p le s row w h = omega (arith, row.each w h, above_le m laws w p)

-- What is least against the row is the mode's bound.
module _ (m : Meaning) (laws : Lawful m) (p i : ℕ) (s : List ℕ) (cost deadline : ℕ) (row : Sums m p s) (ec : cost ≡ cost_in (task_at m p) i) (ed : deadline ≡ deadline_in (task_at m p) i) where
  holds_same : (w : ℕ) → w ≤ deadline → cost + get_or s w 0 ≡ need m p i w
  holds_same w h = omega (arith, ec, ed, deadline_at m laws p i, row.each w (omega (arith, ed, deadline_at m laws p i)))

  pub least_bound : (o : Option ℕ) → Least s cost deadline o → bound_of m p i ≡ o
  least_bound (Some w) l =
      found_bound m p i w
      (record { some = l.0; within = omega (arith, ed, l.1); enough = omega (arith, l.2, holds_same w l.1); least = λ v a b. omega (arith, l.3 v a b, holds_same v (omega (arith, l.1))) })
  least_bound None l = found_none m p i (λ w a b. omega (arith, l w a (omega (arith, ed)), holds_same w (omega (arith, ed))))
