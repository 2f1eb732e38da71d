-- A tick keeps the accounts. Assumes nothing.
use Rattle.std.proofs.Common.{◌≡◌, ℕ, suc, ◌+◌, ◌<◌, ◌≤◌, ◌⊎◌, List, set, Some, None, Option, sym, ap, subst, inl, inr, arith}
use native.Mathlib.Decide.{dec_le, ℕ_discrete}
use Rattle.line.specs.Meaning.{Meaning}
use Rattle.line.specs.Lawful.{Lawful}
use Rattle.run.specs.declared.Job.{Job}
use Rattle.run.specs.Course.{job_at, left_of}
use Rattle.run.specs.Ticks.{served}
use Rattle.run.proofs.Slots.{left_served, given_other, given_cases}
use Rattle.response.proofs.Accounts.{sum, bump, bump_same, bump_other, sum_bump, Share, Own, Level, Sound, anew, full_next}

sound_served : (m : Meaning) (p now : ℕ) (o : Option Job) → Sound m p now o → Sound m p now (served 1 o)
sound_served m p now None h = tt
sound_served m p now (Some j) h = h

pub sound_later : (m : Meaning) (p now : ℕ) (o : Option Job) → Sound m p now o → Sound m p (suc now) o
sound_later m p now None h = tt
sound_later m p now (Some j) h = let x = h.1 in (h.0, omega arith)

share_served : (m : Meaning) (q t u : ℕ) (o : Option Job) → 0 < left_of o → Share m q t u o → Share m q t (suc u) (served 1 o)
share_served m q t u o one (inl z) = let x = z.1 in absurd (omega arith)
share_served m q t u None one (inr b) = inr b
share_served m q t u (Some j) one (inr b) = let x = b.4 in inr (b.0, b.1, b.2, b.3, omega arith)

own_served : (m : Meaning) (p t f : ℕ) (o : Option Job) → 1 < left_of o → Own m p t f o → Own m p t (suc f) (served 1 o)
own_served m p t f o two (inl z) = let x = z.1 in absurd (omega arith)
own_served m p t f None two (inr b) = inr b
own_served m p t f (Some j) two (inr b) = let x = b.2 in inr (omega arith, b.1, omega arith)

module _ (m : Meaning) (laws : Lawful m) (now : ℕ) (os : List (Option Job)) (snd : (q : ℕ) → q < m.count → Sound m q now (job_at os q)) (k : ℕ)
    (below : (q : ℕ) → q < k → left_of (job_at os q) ≡ 0) (has : k < m.count → 0 < left_of (job_at os k)) where
  -- The jobs after the tick.
  abbrev after : List (Option Job)
  after = set os k (served 1 (job_at os k))

  pub sound_after : (q : ℕ) → q < m.count → Sound m q now (job_at after q)
  sound_after q l = given_cases (λ i o. Sound m i now o) os k 1 q (λ e. sound_served m q now (job_at os q) (snd q l)) (λ d. snd q l)

  other : (q : ℕ) → (q ≡ k → ⊥) → job_at after q ≡ job_at os q
  other q d = given_other os k q (served 1 (job_at os k)) d

  -- The tick goes to a place above p.
  above_p : (p : ℕ) → p < m.count → k < p → Level m now os p → Level m (suc now) after p
  above_p p lp kp lv = record {
    from = lv.from;
    used = bump k lv.used;
    free = lv.free;
    count = cnt;
    shares = shr;
    own = subst (λ o. Own m p lv.from lv.free o) (sym (other p (omega arith))) lv.own;
    full = full_next m laws now p lv.from lv.free lv.free (bump k lv.used) after lp sound_after cnt shr (omega arith) lv.full;
  }
    where
      cnt : lv.from + (sum (bump k lv.used) p + lv.free) ≡ suc now
      cnt = let b = sum_bump k lv.used p kp in let c = lv.count in omega arith

      shr : (q : ℕ) → q < p → Share m q lv.from (bump k lv.used q) (job_at after q)
      shr q l = given_cases (λ i o. Share m i lv.from (bump k lv.used i) o) os k 1 q
          (λ e. subst (λ u. Share m q lv.from u (served 1 (job_at os q))) (sym (bump_same k lv.used q e)) (share_served m q lv.from (lv.used q) (job_at os q) (subst (λ i. 0 < left_of (job_at os i)) (sym e) (has (omega arith))) (lv.shares q l)))
          (λ d. subst (λ u. Share m q lv.from u (job_at os q)) (sym (bump_other k lv.used q d)) (lv.shares q l))

  -- Neither p nor a place above it has work left after the tick.
  idle_p : (p : ℕ) → (p < k) ⊎ ((p ≡ k) × (left_of (job_at os k) ≤ 1)) → Level m (suc now) after p
  idle_p p c = anew m laws (suc now) after p none
    where
      none : (q : ℕ) → q < suc p → left_of (job_at after q) ≡ 0
      none q l = given_cases (λ i o. left_of o ≡ 0) os k 1 q (λ e. one c e) (λ d. below q (less c d))
        where
          less : (p < k) ⊎ ((p ≡ k) × (left_of (job_at os k) ≤ 1)) → (q ≡ k → ⊥) → q < k
          less (inl h) d = omega arith
          less (inr h) d = let x = h.0 in omega arith

          one : (p < k) ⊎ ((p ≡ k) × (left_of (job_at os k) ≤ 1)) → q ≡ k → left_of (served 1 (job_at os q)) ≡ 0
          one (inl h) e = absurd (omega arith)
          one (inr h) e = let w = left_served 1 (job_at os q) in let x = h.1 in let y = ap (λ i. left_of (job_at os i)) e in omega arith

  -- The tick goes to p, and leaves some of its work.
  itself : (p : ℕ) → p < m.count → p ≡ k → 1 < left_of (job_at os p) → Level m now os p → Level m (suc now) after p
  itself p lp e two lv = record {
    from = lv.from;
    used = lv.used;
    free = suc lv.free;
    count = cnt;
    shares = shr;
    own = given_cases (λ i o. Own m i lv.from (suc lv.free) o) os k 1 p (λ _. own_served m p lv.from lv.free (job_at os p) two lv.own) (λ d. absurd (d e));
    full = full_next m laws now p lv.from lv.free (suc lv.free) lv.used after lp sound_after cnt shr (omega arith) lv.full;
  }
    where
      cnt : lv.from + (sum lv.used p + suc lv.free) ≡ suc now
      cnt = let c = lv.count in omega arith

      shr : (q : ℕ) → q < p → Share m q lv.from (lv.used q) (job_at after q)
      shr q l = subst (λ o. Share m q lv.from (lv.used q) o) (sym (other q (omega arith))) (lv.shares q l)

  pub level_tick : (p : ℕ) → p < m.count → Level m now os p → Level m (suc now) after p
  level_tick p lp lv =
      elim (dec_le k p) [
        | no a ↦ idle_p p (inl (omega arith))
        | yes a ↦ elim (ℕ_discrete p k) [
          | no b ↦ above_p p lp (omega arith) lv
          | yes b ↦ elim (dec_le (left_of (job_at os p)) 1) [
            | yes c ↦ idle_p p (inr (b, subst (λ i. left_of (job_at os i) ≤ 1) b c))
            | no c ↦ itself p lp b (omega arith) lv
          ]
        ]
      ]
