-- The bound as it is computed is the bound in words. Assumes nothing.
use Rattle.std.proofs.Common.{◌≡◌, ℕ, zero, suc, ◌+◌, ◌*◌, ◌≤◌, Some, None, add-one, arith}
use Rattle.std.proofs.lemmas.Bool.{leb-true, leb-false, le-leb, lt-leb}
use Rattle.line.specs.Meaning.{Meaning, task_at, most_in, deadline_in}
use Rattle.line.specs.Lawful.{Lawful}
use Rattle.line.proofs.Facts.{most_at}
use Rattle.response.specs.Bounds.{above, Bound, NoBound, holds, bound_of}
use Rattle.response.proofs.Firsts.{first_found, found_first, first_none, none_first}

-- The work above a place is at most a million for each place, and grows by one place's most at a time.
pub above_le : (m : Meaning) → Lawful m → (w p : ℕ) → above m w p ≤ 1000000 * p
above_le m l w zero = omega arith
above_le m l w (suc k) = omega (arith, above_le m l w k, most_at m l k w)

pub above_next : (m : Meaning) (w k : ℕ) → above m w (k + 1) ≡ above m w k + most_in (task_at m k) w
above_next m w k = rw add-one

module _ (m : Meaning) (p i : ℕ) where
  -- A bound that is found is the bound, and the bound is found.
  pub bound_found : (w : ℕ) → bound_of m p i ≡ Some w → Bound m p i w
  unfolding bound_of
  bound_found w e =
      let f = first_found (holds m p i) (deadline_in (task_at m p) i) 1 w e in
      record { some = f.from; within = omega (arith, f.to); enough = leb-true _ _ f.passes; least = λ v a b. leb-false _ _ (f.others v a b) }

  pub found_bound : (w : ℕ) → Bound m p i w → bound_of m p i ≡ Some w
  unfolding bound_of
  found_bound w b =
      found_first (holds m p i) (deadline_in (task_at m p) i) 1 w
      (record { from = b.some; to = omega (arith, b.within); passes = le-leb _ _ b.enough; others = λ v x y. lt-leb _ _ (b.least v x y) })

  -- None is found exactly if there is none.
  pub none_found : bound_of m p i ≡ None → NoBound m p i
  unfolding bound_of
  none_found e w a b = leb-false _ _ (first_none (holds m p i) (deadline_in (task_at m p) i) 1 e w a (omega arith))

  pub found_none : NoBound m p i → bound_of m p i ≡ None
  unfolding bound_of
  found_none n = none_first (holds m p i) (deadline_in (task_at m p) i) 1 (λ w a b. lt-leb _ _ (n w a (omega arith)))
