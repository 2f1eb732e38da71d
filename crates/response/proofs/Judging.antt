-- The verdict as it is computed is the verdict in words. Assumes nothing.
use Rattle.std.proofs.Common.{◌≡◌, ℕ, zero, suc, ◌+◌, ◌-◌, ◌<◌, ◌≤◌, true, false, Some, None, Option, unwrap_or, sym, refl, ap, ◌∙◌, subst, inl, inr, add-one, arith}
use Rattle.std.proofs.lemmas.Bool.{cases_eq, cases_order}
use Rattle.line.specs.Meaning.{Meaning, task_at, modes_in}
use Rattle.response.specs.declared.Verdict.{Verdict}
use Rattle.response.specs.declared.Verdict.TheVariants.{Fits, Over}
use Rattle.response.specs.Bounds.{first_from, bound_of}
use Rattle.response.specs.Verdicts.{missing, lacks, over_in, over_or, over_from, first_over, as_verdict, verdict_of}
use Rattle.response.specs.Judgements.{Mode, Before}
use Rattle.response.proofs.Firsts.{first_found, first_none, first_here}

-- The mode has a bound.
abbrev pub Bounded : Meaning → ℕ → ℕ → Type 0
Bounded m p i = (w : ℕ) × (bound_of m p i ≡ Some w)

missing_none : (o : Option ℕ) → missing o ≡ true → o ≡ None
missing_none None e = refl
missing_none (Some w) e = let z : ◌≡◌ {A = ℕ} 0 1 = cc in absurd (omega arith)

missing_some : (o : Option ℕ) → missing o ≡ false → (w : ℕ) × (o ≡ Some w)
missing_some None e = let z : ◌≡◌ {A = ℕ} 0 1 = cc in absurd (omega arith)
missing_some (Some w) e = (w, refl)

pub bounded_not : (m : Meaning) (p i : ℕ) → Bounded m p i → bound_of m p i ≡ None → ⊥
bounded_not m p i b e = let h = b.1 in let z : ◌≡◌ {A = ℕ} 0 1 = cc in omega arith

-- A place without a mode over has a bound for each; at the first one over, those before it have.
pub none_over : (m : Meaning) (p : ℕ) → over_in m p ≡ None → (i : ℕ) → i < modes_in (task_at m p) → Bounded m p i
unfolding over_in
none_over m p e i h = missing_some _ (first_none (lacks m p) (modes_in (task_at m p)) 0 e i (omega arith) (omega arith))

pub record OverAt (m : Meaning) (p i : ℕ) : Type 0 where
  pub mode : i < modes_in (task_at m p)
  pub none : bound_of m p i ≡ None
  pub before : (j : ℕ) → j < i → Bounded m p j

pub first_over_lem : (m : Meaning) (p i : ℕ) → over_in m p ≡ Some i → OverAt m p i
unfolding over_in
first_over_lem m p i e =
    let f = first_found (lacks m p) (modes_in (task_at m p)) 0 i e in
    record { mode = omega (arith, f.to); none = missing_none _ f.passes; before = λ j h. missing_some _ (f.others j (omega arith) h) }

-- One mode after another: what a loop over the modes of a place needs.
pub over_start : (m : Meaning) (p : ℕ) → over_in m p ≡ first_from (lacks m p) (modes_in (task_at m p) - 0) 0
unfolding over_in
over_start m p = let e : modes_in (task_at m p) ≡ modes_in (task_at m p) - 0 = omega arith in ap (λ n. first_from (lacks m p) n 0) e

module _ (m : Meaning) (p n i : ℕ) (some : 1 ≤ n) (left : over_in m p ≡ first_from (lacks m p) n i) where
  pub over_here : bound_of m p i ≡ None → over_in m p ≡ Some i
  over_here e = left ∙ first_here (lacks m p) n i some (ap missing e)

-- Place q, with mode j, is the first of n places from p on that is over.
record OverFrom (m : Meaning) (n p q j : ℕ) : Type 0 where
  from : p ≤ q
  to : q < p + n
  here : over_in m q ≡ Some j
  before : (r : ℕ) → p ≤ r → r < q → over_in m r ≡ None

module _ (m : Meaning) where
  from_none : (n p : ℕ) → over_from m n p ≡ None → (q : ℕ) → p ≤ q → q < p + n → over_in m q ≡ None
  from_none zero p e q a b = absurd (omega arith)
  from_none (suc n) p e q a b = go (λ e c. from_none n (suc p) e q c (omega arith)) (over_in m p) refl e
    where
      go : (over_from m n (suc p) ≡ None → suc p ≤ q → over_in m q ≡ None) → (o : Option ℕ) → over_in m p ≡ o → over_or p o (over_from m n (suc p)) ≡ None → over_in m q ≡ None
      go later None h e = elim (cases_eq p q) [ inl x ↦ subst (λ k. over_in m k ≡ None) x h | inr ne ↦ later e (omega arith) ]
      go later (Some i) h e = let z : ◌≡◌ {A = ℕ} 0 1 = cc in absurd (omega arith)

  from_later : (n p q j : ℕ) → over_in m p ≡ None → OverFrom m n (suc p) q j → OverFrom m (suc n) p q j
  from_later n p q j h f = record {
    from = omega (arith, f.from);
    to = omega (arith, f.to);
    here = f.here;
    before = λ r a b. elim (cases_eq p r) [ inl x ↦ subst (λ k. over_in m k ≡ None) x h | inr ne ↦ f.before r (omega arith) b ];
  }

  from_some : (n p q j : ℕ) → over_from m n p ≡ Some (q, j) → OverFrom m n p q j
  from_some zero p q j e = let z : ◌≡◌ {A = ℕ} 0 1 = cc in absurd (omega arith)
  from_some (suc n) p q j e = go (from_some n (suc p) q j) (over_in m p) refl e
    where
      go : (over_from m n (suc p) ≡ Some (q, j) → OverFrom m n (suc p) q j) → (o : Option ℕ) → over_in m p ≡ o → over_or p o (over_from m n (suc p)) ≡ Some (q, j) → OverFrom m (suc n) p q j
      go later None h e = from_later n p q j h (later e)
      go later (Some i) h e =
          let x : p ≡ q = ap (λ o. (unwrap_or {T = ℕ × ℕ} o (p, i)).0) e in
          let y : i ≡ j = ap (λ o. (unwrap_or {T = ℕ × ℕ} o (p, i)).1) e in
          record { from = omega arith; to = omega arith; here = subst (λ k. over_in m k ≡ Some j) x (h ∙ ap Some y); before = λ r a b. absurd (omega arith) }

-- The verdict is the one that the first place and mode without a bound mean.
pub verdict_at : (m : Meaning) → verdict_of m ≡ as_verdict (first_over m)
unfolding verdict_of
verdict_at m = refl

pub verdict_over : (m : Meaning) (p i : ℕ) → first_over m ≡ Some (p, i) → Over p i ≡ verdict_of m
verdict_over m p i e = sym (verdict_at m ∙ ap as_verdict e)

pub verdict_fits : (m : Meaning) (n p : ℕ) → n ≡ 0 → first_over m ≡ over_from m n p → Fits ≡ verdict_of m
verdict_fits m n p z e = sym (verdict_at m ∙ ap as_verdict (e ∙ ap (λ k. over_from m k p) z))

-- One place after another: what a loop over the places needs.
pub line_start : (m : Meaning) → first_over m ≡ over_from m (m.count - 0) 0
unfolding first_over
line_start m = let e : m.count ≡ m.count - 0 = omega arith in ap (λ n. over_from m n 0) e

from_here : (m : Meaning) (n p i : ℕ) → 1 ≤ n → over_in m p ≡ Some i → over_from m n p ≡ Some (p, i)
from_here m zero p i h e = absurd (omega arith)
from_here m (suc n) p i h e = rw e

from_next : (m : Meaning) (n p : ℕ) → 1 ≤ n → over_in m p ≡ None → over_from m n p ≡ over_from m (n - 1) (p + 1)
from_next m zero p h e = absurd (omega arith)
from_next m (suc n) p h e = let x : suc n - 1 ≡ n = omega arith in rw (e, x, add-one)

module _ (m : Meaning) (n p : ℕ) (some : 1 ≤ n) (left : first_over m ≡ over_from m n p) where
  pub line_here : (i : ℕ) → Some i ≡ over_in m p → first_over m ≡ Some (p, i)
  line_here i e = left ∙ from_here m n p i some (sym e)

  pub line_later : (rest : ℕ) → n - 1 ≡ rest → None ≡ over_in m p → first_over m ≡ over_from m rest (p + 1)
  line_later rest fewer e = left ∙ from_next m n p some (sym e) ∙ ap (λ k. over_from m k (p + 1)) fewer

-- The line is over at mode i of place p, with a bound for each mode before it.
pub record OverLine (m : Meaning) (p i : ℕ) : Type 0 where
  pub there : Mode m p i
  pub none : bound_of m p i ≡ None
  pub before : (q j : ℕ) → Mode m q j → Before q j p i → Bounded m q j

fits_none : (o : Option (ℕ × ℕ)) → as_verdict o ≡ Fits → o ≡ None
fits_none None e = refl
fits_none (Some x) e = let z : ◌≡◌ {A = ℕ} 0 1 = cc in absurd (omega arith)

over_some : (o : Option (ℕ × ℕ)) (p i : ℕ) → as_verdict o ≡ Over p i → o ≡ Some (p, i)
over_some None p i e = let z : ◌≡◌ {A = ℕ} 0 1 = cc in absurd (omega arith)
over_some (Some x) p i e =
    let a : x.0 ≡ p = cc in
    let b : x.1 ≡ i = cc in
    ap (λ k. Some (k, x.1)) a ∙ ap (λ k. Some (p, k)) b

module _ (m : Meaning) where
  -- A line that fits has a bound for each mode.
  pub fits_bounds : verdict_of m ≡ Fits → (p i : ℕ) → Mode m p i → Bounded m p i
  unfolding verdict_of first_over
  fits_bounds e p i h = none_over m p (from_none m m.count 0 (fits_none (first_over m) e) p (omega arith) (omega (arith, h.place))) i h.mode

  -- A line that is over is so at its first mode without a bound.
  pub over_line : (p i : ℕ) → verdict_of m ≡ Over p i → OverLine m p i
  unfolding verdict_of first_over
  over_line p i e =
      let f = from_some m m.count 0 p i (over_some (first_over m) p i e) in
      let o = first_over_lem m p i f.here in
      record {
        there = record { place = omega (arith, f.to); mode = o.mode };
        none = o.none;
        before = λ q j h b. elim b [ inl lt ↦ none_over m q (f.before q (omega arith) lt) j h.mode | inr x ↦ subst (λ k. Bounded m k j) (sym x.0) (o.before j x.1) ];
      }

  -- And back: a bound for each mode means that the line fits.
  pub bounds_fit : ((p i : ℕ) → Mode m p i → Bounded m p i) → verdict_of m ≡ Fits
  bounds_fit all = go (verdict_of m) refl
    where
      go : (v : Verdict ℕ) → verdict_of m ≡ v → v ≡ Fits
      go Fits e = refl
      go (Over p i) e = let o = over_line p i e in absurd (bounded_not m p i (all p i o.there) o.none)

  -- And the first mode without a bound is the one that the verdict names.
  pub line_over : (p i : ℕ) → OverLine m p i → verdict_of m ≡ Over p i
  line_over p i l = go (verdict_of m) refl
    where
      go : (v : Verdict ℕ) → verdict_of m ≡ v → v ≡ Over p i
      go Fits e = absurd (bounded_not m p i (fits_bounds e p i l.there) l.none)
      go (Over q j) e = same q j (over_line q j e)
        where
          earlier : (q j : ℕ) → OverLine m q j → Before q j p i → ⊥
          earlier q j o b = bounded_not m q j (l.before q j o.there b) o.none

          later : (q j : ℕ) → OverLine m q j → Before p i q j → ⊥
          later q j o b = bounded_not m p i (o.before p i l.there b) l.none

          same : (q j : ℕ) → OverLine m q j → Over q j ≡ Over p i
          same q j o = elim (cases_order q p) [
            | inl x ↦ elim (cases_order j i) [
              | inl y ↦ ap (λ k. Over k j) x ∙ ap (λ k. Over p k) y
              | inr (inl lt) ↦ absurd (earlier q j o (inr (x, lt)))
              | inr (inr gt) ↦ absurd (later q j o (inr (sym x, gt)))
            ]
            | inr (inl lt) ↦ absurd (earlier q j o (inl lt))
            | inr (inr gt) ↦ absurd (later q j o (inl gt))
          ]
