-- Ticks in which nothing but work happens go in one step. Assumes nothing.
use Rattle.std.proofs.Common.{◌≡◌, ℕ, zero, suc, ◌+◌, ◌-◌, ◌<◌, ◌≤◌, Bool, true, false, cond, ◌&&◌, eqb, ltb, List, [], ◌∷◌, set, is_some, Some, None, Option, sym, refl, ap, ◌∙◌, subst, zero-add, arith}
use Rattle.std.proofs.lemmas.List.{set-set}
use Rattle.std.proofs.lemmas.Bool.Decides.{nat_tests}
use Rattle.line.specs.Meaning.{Meaning}
use Rattle.run.specs.declared.Job.{Job}
use Rattle.run.specs.declared.Late.{Late}
use Rattle.run.specs.Course.{Course, job_at, left_of}
use Rattle.run.specs.Ticks.{idle_above, less, served, noted, due_at, late_in, first_late, ticked, after_ticks}
use Rattle.run.specs.Steps.{unfinished, undue, undue_all, calm, ran_on, Strides}
use Rattle.run.proofs.Slots.{same_course, idle_kept, idle_some, served_more, left_served, give_none, given_same, given_cases, late_none}

-- The ticks of a run, one by one.
pub ticks_done : (m : Meaning) (s : Course) → after_ticks m 0 s ≡ s
unfolding after_ticks
ticks_done m s = refl

pub ticks_late : (m : Meaning) (n : ℕ) (s : Course) → is_some s.late ≡ true → after_ticks m n s ≡ s
unfolding after_ticks
ticks_late m zero s e = refl
ticks_late m (suc n) s e = rw e

pub ticks_more : (m : Meaning) (n : ℕ) (s : Course) → s.late ≡ None → after_ticks m (suc n) s ≡ after_ticks m n (ticked m s)
unfolding after_ticks
ticks_more m n s e = ap (λ l. cond (is_some l) s (after_ticks m n (ticked m s))) e

-- In the next n ticks the job that is served does not finish, and no job with work left becomes due.
record Calm (m : Meaning) (s : Course) (n : ℕ) : Type 0 where
  on : s.late ≡ None
  runs : 0 < left_of (job_at s.jobs (idle_above s.jobs)) → n < left_of (job_at s.jobs (idle_above s.jobs))
  clear : (p : ℕ) (j : Job) → job_at s.jobs p ≡ Some j → 0 < j.left → s.clock < due_at m p j → s.clock + n < due_at m p j

noted_none : (now p n : ℕ) (o : Option Job) (cells : List ℕ) → (0 < left_of o → suc n < left_of o) → noted now p (served n o) cells ≡ cells
noted_none now p n None cells h = refl
noted_none now p n (Some j) cells h =
    let d : j.left - n ≡ 1 → ⊥ = λ e. let k = h (omega arith) in omega arith in
    grind (arith, nat_tests)

on_time : (m : Meaning) (now p : ℕ) (o : Option Job) → ((j : Job) → o ≡ Some j → 0 < j.left → due_at m p j ≡ now → ⊥) → late_in m now p o ≡ None
on_time m now p None h = refl
on_time m now p (Some j) h = by (eqb (due_at m p j) now) refl
  where
    d : 0 < j.left → due_at m p j ≡ now → ⊥
    d = h j refl

    by : (b : Bool) → eqb (due_at m p j) now ≡ b → cond {A = Option (Late ℕ)} (ltb 0 j.left && b) (Some (record { task = p; mode = j.mode })) None ≡ None
    by true e = grind (arith, nat_tests)
    by false e = grind (arith, nat_tests)

on_time_served : (m : Meaning) (now p n : ℕ) (o : Option Job) → ((j : Job) → o ≡ Some j → 0 < j.left → due_at m p j ≡ now → ⊥) → late_in m now p (served n o) ≡ None
on_time_served m now p n None h = refl
on_time_served m now p n (Some j) h = on_time m now p (Some (less n j)) (λ k e l d. h j refl (let x = ap left_of e in omega arith) (let y = same k e in omega arith))
  where
    same : (k : Job) → Some (less n j) ≡ Some k → due_at m p j ≡ due_at m p k
    same k e = let z : less n j ≡ k = cc in ap (due_at m p) z

-- One tick more, after n in which the job that is served ran on.
module _ (m : Meaning) (s : Course) (n : ℕ) (c : Calm m s (suc n)) where
  same_place : idle_above (ran_on n s).jobs ≡ idle_above s.jobs
  same_place =
      idle_kept s.jobs (served n (job_at s.jobs (idle_above s.jobs))) (λ h.
      let l = left_served n (job_at s.jobs (idle_above s.jobs)) in
      let r = c.runs (idle_some s.jobs h) in
      omega arith)

  same_job : job_at (ran_on n s).jobs (idle_above (ran_on n s).jobs) ≡ served n (job_at s.jobs (idle_above s.jobs))
  same_job = ap (job_at (ran_on n s).jobs) same_place ∙ given_same s.jobs (idle_above s.jobs) n

  next_jobs : set (ran_on n s).jobs (idle_above (ran_on n s).jobs) (served 1 (job_at (ran_on n s).jobs (idle_above (ran_on n s).jobs))) ≡ (ran_on (suc n) s).jobs
  next_jobs =
      ap (λ o. set (ran_on n s).jobs (idle_above (ran_on n s).jobs) (served 1 o)) same_job
      ∙ ap (λ k. set (ran_on n s).jobs k (served 1 (served n (job_at s.jobs (idle_above s.jobs))))) same_place
      ∙ set-set s.jobs (idle_above s.jobs) (served n (job_at s.jobs (idle_above s.jobs))) (served 1 (served n (job_at s.jobs (idle_above s.jobs))))
      ∙ ap (set s.jobs (idle_above s.jobs)) (served_more n (job_at s.jobs (idle_above s.jobs)))

  next_worst : noted (s.clock + n + 1) (idle_above (ran_on n s).jobs) (job_at (ran_on n s).jobs (idle_above (ran_on n s).jobs)) s.worst ≡ s.worst
  next_worst =
      ap (λ o. noted (s.clock + n + 1) (idle_above (ran_on n s).jobs) o s.worst) same_job
      ∙ noted_none (s.clock + n + 1) (idle_above (ran_on n s).jobs) n (job_at s.jobs (idle_above s.jobs)) s.worst c.runs

  not_due : (q : ℕ) (j : Job) → job_at s.jobs q ≡ Some j → 0 < j.left → due_at m q j ≡ s.clock + n + 1 → ⊥
  not_due q j e l d = let k = c.clear q j e l (omega arith) in omega arith

  next_late : first_late m (s.clock + n + 1) 0 (ran_on (suc n) s).jobs ≡ None
  next_late = late_none m (s.clock + n + 1) 0 (ran_on (suc n) s).jobs (λ q.
      rw (zero-add q) (given_cases (λ k o. late_in m (s.clock + n + 1) k o ≡ None) s.jobs (idle_above s.jobs) (suc n) q
      (λ e. on_time_served m (s.clock + n + 1) q (suc n) (job_at s.jobs q) (not_due q))
      (λ d. on_time m (s.clock + n + 1) q (job_at s.jobs q) (not_due q))))

  tick_on : ticked m (ran_on n s) ≡ ran_on (suc n) s
  tick_on = same_course (s.clock + n + 1) (s.clock + suc n) _ _ _ _ _ _ (omega arith) next_jobs next_worst (ap (first_late m (s.clock + n + 1) 0) next_jobs ∙ next_late ∙ sym c.on)

ran_none : (s : Course) → ran_on 0 s ≡ s
ran_none s = same_course (s.clock + 0) s.clock (ran_on 0 s).jobs s.jobs s.worst s.worst s.late s.late (omega arith) (give_none s.jobs (idle_above s.jobs)) refl refl

calm_less : (m : Meaning) (s : Course) (n : ℕ) → Calm m s (suc n) → Calm m s n
calm_less m s n c = record {
  on = c.on;
  runs = λ h. let k = c.runs h in omega arith;
  clear = λ p j e l d. let k = c.clear p j e l d in omega arith;
}

-- n calm ticks, one by one, are one step.
calm_ticks : (m : Meaning) (s : Course) (n k : ℕ) → Calm m s n → after_ticks m (n + k) s ≡ after_ticks m k (ran_on n s)
calm_ticks m s zero k c = ap (λ i. after_ticks m i s) (zero-add k) ∙ ap (after_ticks m k) (sym (ran_none s))
calm_ticks m s (suc n) k c =
    let same : suc n + k ≡ n + suc k = omega arith in
    ap (λ i. after_ticks m i s) same
    ∙ calm_ticks m s n (suc k) (calm_less m s n c)
    ∙ ticks_more m k (ran_on n s) c.on
    ∙ ap (after_ticks m k) (tick_on m s n c)

-- The number of ticks that `calm` finds.
undue_within : (m : Meaning) (now p : ℕ) (o : Option Job) (n : ℕ) → undue m now p o n ≤ n
undue_within m now p None n = omega arith
undue_within m now p (Some j) n = grind (arith, nat_tests)

undue_clear : (m : Meaning) (now p : ℕ) (j : Job) (n : ℕ) → 0 < j.left → now < due_at m p j → now + undue m now p (Some j) n < due_at m p j
undue_clear m now p j n l d = grind (arith, nat_tests)

undue_all_within : (m : Meaning) (now p : ℕ) (os : List (Option Job)) (n : ℕ) → undue_all m now p os n ≤ n
undue_all_within m now p [] n = omega arith
undue_all_within m now p (o ∷ os) n =
    let a = undue_within m now p o n in
    let b = undue_all_within m now (suc p) os (undue m now p o n) in
    omega arith

undue_all_clear : (m : Meaning) (now p : ℕ) (os : List (Option Job)) (n q : ℕ) (j : Job) → job_at os q ≡ Some j → 0 < j.left → now < due_at m (p + q) j → now + undue_all m now p os n < due_at m (p + q) j
undue_all_clear m now p [] n q j e l d = let z : ◌≡◌ {A = ℕ} 0 1 = cc in absurd (omega arith)
undue_all_clear m now p (o ∷ os) n zero j e l d =
    let at : p + 0 ≡ p = omega arith in
    let x : now < due_at m p j = subst (λ k. now < due_at m k j) at d in
    let a : now + undue m now p o n < due_at m p j = subst (λ i. now + undue m now p i n < due_at m p j) (sym e) (undue_clear m now p j n l x) in
    let b = undue_all_within m now (suc p) os (undue m now p o n) in
    subst (λ k. now + undue_all m now p (o ∷ os) n < due_at m k j) (sym at) (omega arith)
undue_all_clear m now p (o ∷ os) n (suc q) j e l d =
    let at : p + suc q ≡ suc p + q = omega arith in
    subst (λ k. now + undue_all m now p (o ∷ os) n < due_at m k j) (sym at)
    (undue_all_clear m now (suc p) os (undue m now p o n) q j e l (subst (λ k. now < due_at m k j) at d))

unfinished_within : (o : Option Job) (n : ℕ) → unfinished o n ≤ n
unfinished_within o n = grind (arith, nat_tests)

unfinished_runs : (o : Option Job) (n : ℕ) → 0 < left_of o → unfinished o n < left_of o
unfinished_runs o n h = grind (arith, nat_tests)

pub calm_within : (m : Meaning) (s : Course) (n : ℕ) → calm m s n ≤ n
calm_within m s n =
    let u = unfinished (job_at s.jobs (idle_above s.jobs)) n in
    let a = undue_all_within m s.clock 0 s.jobs u in
    let b = unfinished_within (job_at s.jobs (idle_above s.jobs)) n in
    omega arith

calm_found : (m : Meaning) (s : Course) (n : ℕ) → s.late ≡ None → Calm m s (calm m s n)
calm_found m s n on = record {
  on = on;
  runs = λ h.
      let u = unfinished (job_at s.jobs (idle_above s.jobs)) n in
      let a = undue_all_within m s.clock 0 s.jobs u in
      let b = unfinished_runs (job_at s.jobs (idle_above s.jobs)) n h in
      omega arith;
  clear = λ p j e l d.
      let u = unfinished (job_at s.jobs (idle_above s.jobs)) n in
      subst (λ k. s.clock + calm m s n < due_at m k j) (zero-add p) (undue_all_clear m s.clock 0 s.jobs u p j e l (subst (λ k. s.clock < due_at m k j) (sym (zero-add p)) d));
}

-- One to n ticks in one step: a tick, or the calm ones.
clock_ticked : (m : Meaning) (s : Course) → (ticked m s).clock ≡ s.clock + 1
clock_ticked m s = refl

pub strides_tick : (m : Meaning) (n : ℕ) (s t : Course) → s.late ≡ None → 1 ≤ n → t ≡ ticked m s → Strides m n s t
strides_tick m n s t on some e =
    let c : t.clock ≡ s.clock + 1 = ap (λ x. x.clock) e ∙ clock_ticked m s in
    let k : n ≡ suc (s.clock + n - t.clock) = omega arith in
    record {
      on = omega arith;
      within = omega arith;
      same = ap (λ i. after_ticks m i s) k ∙ ticks_more m (s.clock + n - t.clock) s on ∙ ap (after_ticks m (s.clock + n - t.clock)) (sym e);
    }

pub strides_calm : (m : Meaning) (n d : ℕ) (s t : Course) → s.late ≡ None → d ≡ calm m s n → 1 ≤ d → t ≡ ran_on d s → Strides m n s t
strides_calm m n d s t on found some e =
    let c : t.clock ≡ s.clock + d = ap (λ x. x.clock) e in
    let w = calm_within m s n in
    let k : n ≡ d + (s.clock + n - t.clock) = omega arith in
    record {
      on = omega arith;
      within = omega arith;
      same = ap (λ i. after_ticks m i s) k ∙ calm_ticks m s d (s.clock + n - t.clock) (subst (Calm m s) (sym found) (calm_found m s n on)) ∙ ap (after_ticks m (s.clock + n - t.clock)) (sym e);
    }

-- The clock does not go back.
later_by : (m : Meaning) (n : ℕ) (s : Course) (b : Bool) → (ticked m s).clock ≤ (after_ticks m n (ticked m s)).clock → s.clock ≤ (cond b s (after_ticks m n (ticked m s))).clock
later_by m n s true h = omega arith
later_by m n s false h = let c = clock_ticked m s in omega arith

pub ticks_later : (m : Meaning) (n : ℕ) (s : Course) → s.clock ≤ (after_ticks m n s).clock
unfolding after_ticks
ticks_later m zero s = omega arith
ticks_later m (suc n) s = later_by m n s (is_some s.late) (ticks_later m n (ticked m s))

-- The end of an advance, at t: the clock has not gone back, and t is what the ticks lead to.
pub record Ended (m : Meaning) (n : ℕ) (s t : Course) : Type 0 where
  pub later : s.clock ≤ t.clock
  pub state : t ≡ after_ticks m n s

arrived : (m : Meaning) (n : ℕ) (s t : Course) → t ≡ after_ticks m n s → Ended m n s t
arrived m n s t e = let l = ticks_later m n s in let c = ap (λ x. x.clock) e in record { later = omega arith; state = e }

pub ended_late : (m : Meaning) (k n : ℕ) (t s : Course) → is_some t.late ≡ true → after_ticks m k t ≡ after_ticks m n s → Ended m n s t
ended_late m k n t s l e = arrived m n s t (sym (ticks_late m k t l) ∙ e)

pub ended_on_clock : (m : Meaning) (k n : ℕ) (t s : Course) → k ≡ 0 → after_ticks m k t ≡ after_ticks m n s → Ended m n s t
ended_on_clock m k n t s z e = arrived m n s t (sym (ap (λ i. after_ticks m i t) z ∙ ticks_done m t) ∙ e)
