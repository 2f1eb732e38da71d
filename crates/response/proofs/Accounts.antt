-- The account of a place: what a run of a line that fits keeps, and what that says of the time. Assumes nothing.
use Rattle.std.proofs.Common.{◌≡◌, ℕ, zero, suc, ◌+◌, ◌<◌, ◌≤◌, cond, eqb, ◌⊎◌, List, Some, None, Option, refl, subst, inl, inr, arith}
use native.Mathlib.Decide.{dec_le}
use Rattle.std.proofs.lemmas.Bool.{cases_eq, cases_lt, eq-eqb, ne_eqb, cond-true, cond-false}
use Rattle.line.specs.Meaning.{Meaning, task_at, modes_in, cost_in, most_in}
use Rattle.line.specs.Lawful.{Lawful}
use Rattle.line.proofs.Facts.{deadline_at}
use Rattle.run.specs.declared.Job.{Job}
use Rattle.run.specs.Course.{job_at, left_of}
use Rattle.response.specs.Bounds.{above, Bound}
use Rattle.response.proofs.Asking.{Trace, laws_at, trace_most}

-- f 0 + .. + f (n - 1)
abbrev pub sum : (ℕ → ℕ) → ℕ → ℕ
sum f zero = 0
sum f (suc n) = sum f n + f n

sum_above : (m : Meaning) (w : ℕ) (f : ℕ → ℕ) (n : ℕ) → ((q : ℕ) → q < n → f q ≤ most_in (task_at m q) w) → sum f n ≤ above m w n
sum_above m w f zero h = omega arith
sum_above m w f (suc n) h =
    let ih = sum_above m w f n (λ q l. h q (omega arith)) in
    let k = h n (omega arith) in
    omega arith

sum_none : (n : ℕ) → sum (λ q. 0) n ≡ 0
sum_none zero = refl
sum_none (suc n) = let ih = sum_none n in omega arith

-- One more at the place k.
abbrev pub bump : ℕ → (ℕ → ℕ) → ℕ → ℕ
bump k f i = cond (eqb i k) (suc (f i)) (f i)

pub bump_same : (k : ℕ) (f : ℕ → ℕ) (i : ℕ) → i ≡ k → bump k f i ≡ suc (f i)
bump_same k f i e = cond-true (eqb i k) (suc (f i)) (f i) (eq-eqb _ _ e)

pub bump_other : (k : ℕ) (f : ℕ → ℕ) (i : ℕ) → (i ≡ k → ⊥) → bump k f i ≡ f i
bump_other k f i d = cond-false (eqb i k) (suc (f i)) (f i) (ne_eqb _ _ d)

sum_bump_out : (k : ℕ) (f : ℕ → ℕ) (n : ℕ) → n ≤ k → sum (bump k f) n ≡ sum f n
sum_bump_out k f zero l = refl
sum_bump_out k f (suc n) l =
    let ih = sum_bump_out k f n (omega arith) in
    let o = bump_other k f n (omega arith) in
    omega arith

pub sum_bump : (k : ℕ) (f : ℕ → ℕ) (n : ℕ) → k < n → sum (bump k f) n ≡ suc (sum f n)
sum_bump k f zero l = absurd (omega arith)
sum_bump k f (suc n) l = by (cases_eq n k) (λ h. sum_bump k f n h)
  where
    by : (n ≡ k) ⊎ (n ≡ k → ⊥) → (k < n → sum (bump k f) n ≡ suc (sum f n)) → sum (bump k f) (suc n) ≡ suc (sum f (suc n))
    by (inl e) ih = let o = sum_bump_out k f n (omega arith) in let b = bump_same k f n e in omega arith
    by (inr d) ih = let o = bump_other k f n d in let i = ih (omega arith) in omega arith

-- Of place q: its releases since t, of which u units were worked off by now.
abbrev pub Busy : Meaning → ℕ → ℕ → ℕ → Option Job → Type 0
Busy m q t u None = ⊥
Busy m q t u (Some j) = (s : ℕ) × (w : ℕ) × Trace (task_at m q) j.mode s w × (t + s ≤ j.release) × (u + j.left ≤ w)

abbrev pub Share : Meaning → ℕ → ℕ → ℕ → Option Job → Type 0
Share m q t u o = ((u ≡ 0) × (left_of o ≡ 0)) ⊎ Busy m q t u o

-- Of place p itself: f units of its job were worked off, and the job was released at t or later.
abbrev pub Active : Meaning → ℕ → ℕ → ℕ → Option Job → Type 0
Active m p t f None = ⊥
Active m p t f (Some j) = (0 < j.left) × (t ≤ j.release) × (f + j.left ≤ cost_in (task_at m p) j.mode)

abbrev pub Own : Meaning → ℕ → ℕ → ℕ → Option Job → Type 0
Own m p t f o = ((f ≡ 0) × (left_of o ≡ 0)) ⊎ Active m p t f o

-- The account of place p since `from`, a clock at which no place above it had work left. `used q` units went to the
-- place q above it, and `free` ticks to no place above it, which were its own.
pub record Level (m : Meaning) (now : ℕ) (os : List (Option Job)) (p : ℕ) : Type 0 where
  pub from : ℕ
  pub used : ℕ → ℕ
  pub free : ℕ
  pub count : from + (sum used p + free) ≡ now
  pub shares : (q : ℕ) → q < p → Share m q from (used q) (job_at os q)
  pub own : Own m p from free (job_at os p)
  pub full : (w : ℕ) → 1 ≤ w → w ≤ 1000 → from + w ≤ now → w ≤ free + above m w p

-- The job of a place is in a mode of the line, and was released by now.
abbrev pub Sound : Meaning → ℕ → ℕ → Option Job → Type 0
Sound m p now None = Unit {0}
Sound m p now (Some j) = (j.mode < modes_in (task_at m p)) × (j.release ≤ now)

module _ (m : Meaning) (laws : Lawful m) where
  -- What a place got since t is at most what it can ask for.
  share_most : (q t u now w : ℕ) (o : Option Job) → q < m.count → Sound m q now o → Share m q t u o → t + w ≡ suc now → w ≤ 1000 → u + left_of o ≤ most_in (task_at m q) w
  share_most q t u now w o l snd (inl z) e few = let a = z.0 in let b = z.1 in omega arith
  share_most q t u now w None l snd (inr b) e few = absurd b
  share_most q t u now w (Some j) l snd (inr b) e few =
      let h = snd.1 in
      let x = b.3 in
      let y = b.4 in
      let most = trace_most (task_at m q) (laws_at m laws q l) j.mode b.0 b.1 w b.2 (omega arith) few in
      omega arith

  -- A job with work left is within its bound.
  pub level_time : (now : ℕ) (os : List (Option Job)) (p : ℕ) (j : Job) (r : ℕ) → Level m now os p → job_at os p ≡ Some j → 0 < j.left → Bound m p j.mode r → now < j.release + r
  level_time now os p j r lv e one bd = by (subst (λ o. Own m p lv.from lv.free o) e lv.own) (cases_lt now (lv.from + r))
    where
      by : Own m p lv.from lv.free (Some j) → (now < lv.from + r) ⊎ (lv.from + r ≤ now) → now < j.release + r
      by (inl z) d = let x = z.1 in absurd (omega arith)
      by (inr a) (inr d) =
          let short = deadline_at m laws p j.mode in
          let within = bd.within in
          let f = lv.full r bd.some (omega arith) d in
          let en = bd.enough in
          let x = a.2 in
          absurd (omega arith)
      by (inr a) (inl d) = let x = a.1 in omega arith

  -- A new account begins where neither p nor a place above it has work left.
  pub anew : (now : ℕ) (os : List (Option Job)) (p : ℕ) → ((q : ℕ) → q < suc p → left_of (job_at os q) ≡ 0) → Level m now os p
  anew now os p none = record {
    from = now;
    used = λ q. 0;
    free = 0;
    count = let z = sum_none p in omega arith;
    shares = λ q l. inl (refl, none q (omega arith));
    own = inl (refl, none p (omega arith));
    full = λ w o few l. absurd (omega arith);
  }

  -- The inequality of an account goes on as the clock does.
  pub full_next : (now p from free free' : ℕ) (used : ℕ → ℕ) (os : List (Option Job)) → p < m.count →
      ((q : ℕ) → q < m.count → Sound m q now (job_at os q)) →
      from + (sum used p + free') ≡ suc now →
      ((q : ℕ) → q < p → Share m q from (used q) (job_at os q)) →
      free ≤ free' →
      ((w : ℕ) → 1 ≤ w → w ≤ 1000 → from + w ≤ now → w ≤ free + above m w p) →
      (w : ℕ) → 1 ≤ w → w ≤ 1000 → from + w ≤ suc now → w ≤ free' + above m w p
  full_next now p from free free' used os lp snd count shares more full w one few l =
      elim (dec_le (from + w) now) [
        | yes d ↦ let f = full w one few d in omega arith
        | no d ↦
            let each : (q : ℕ) → q < p → used q ≤ most_in (task_at m q) w = λ q lq. let a = share_most q from (used q) now w (job_at os q) (omega arith) (snd q (omega arith)) (shares q lq) (omega arith) few in omega arith in
            let a = sum_above m w used p each in
            omega arith
      ]
