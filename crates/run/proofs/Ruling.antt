-- The computed tick is the one that the rules allow. Assumes nothing.
use Rattle.std.proofs.Common.{◌≡◌, ℕ, zero, suc, ◌+◌, ◌-◌, ◌*◌, ◌/◌, ◌%◌, ◌<◌, max, Bool, true, false, cond, ◌&&◌, eqb, ltb, ◌⊎◌, List, [], ◌∷◌, length, get_or, set, Some, None, Option, sym, refl, ap, ◌∙◌, subst, inl, inr, zero-add, arith, length-set}
use Rattle.std.proofs.lemmas.Bool.{cases_eq, cases_order, ltb-true, ltb-false, lt-ltb, eq-eqb, eqb-true, eqb-false, cond-true}
use Rattle.std.proofs.lemmas.List.{get_or-set_same, get_or-set_other, ext_get_or}
use Rattle.line.specs.Meaning.{Meaning}
use Rattle.run.specs.declared.Job.{Job}
use Rattle.run.specs.declared.Late.{Late}
use Rattle.run.specs.Course.{Course, job_at, left_of, worst_at}
use Rattle.run.specs.Ticks.{idle_above, less, served, raised, noted, due_at, late_in, or_else, first_late, ticked}
use Rattle.run.specs.Rules.{Whole, Served, Finishes, Misses, LateNow, Tick, TickByRules}
use Rattle.run.proofs.Slots.{same_course, idle_none, idle_some, idle_is, job_within, given_same, given_cases}

-- The place that is served is the first with work left.
served_idle : (s : Course) (p : ℕ) (j : Job) → Served s p j → idle_above s.jobs ≡ p
served_idle s p j v =
    let l = ap left_of v.here in
    let o = v.some in
    idle_is s.jobs p (omega arith) (λ q h. by q h (job_at s.jobs q) refl)
  where
    by : (q : ℕ) → q < p → (o : Option Job) → job_at s.jobs q ≡ o → left_of o ≡ 0
    by q h None e = refl
    by q h (Some k) e = v.above q k h e

idle_served : (s : Course) (p : ℕ) (j : Job) → idle_above s.jobs ≡ p → job_at s.jobs p ≡ Some j → Served s p j
idle_served s p j e here =
    let w = job_within s.jobs p j here in
    let n = subst (λ k. 0 < left_of (job_at s.jobs k)) e (idle_some s.jobs (omega arith)) in
    let l = ap left_of here in
    record {
      here = here;
      some = omega arith;
      above = λ q k h f. let z = idle_none s.jobs q (omega arith) in let y = ap left_of f in omega arith;
    }

same_job : (s : Course) (p : ℕ) (j k : Job) → Served s p j → job_at s.jobs p ≡ Some k → k ≡ j
same_job s p j k v e = let h = v.here in cc

-- Whether a place is served.
decide : (s : Course) (p : ℕ) → ((j : Job) × Served s p j) ⊎ ((j : Job) → Served s p j → ⊥)
decide s p = elim (cases_eq (idle_above s.jobs) p) [
  | inl e ↦ by (job_at s.jobs p) refl e
  | inr d ↦ inr (λ j v. d (served_idle s p j v))
]
  where
    by : (o : Option Job) → job_at s.jobs p ≡ o → idle_above s.jobs ≡ p → ((j : Job) × Served s p j) ⊎ ((j : Job) → Served s p j → ⊥)
    by None h e = inr (λ j v. let x = v.here in let z : ◌≡◌ {A = ℕ} 0 1 = cc in omega arith)
    by (Some j) h e = inl (j, idle_served s p j e h)

-- Whether a job of a place finishes in a mode.
pub decide_end : (s : Course) (p i : ℕ) → ((j : Job) × Finishes s p j × (j.mode ≡ i)) ⊎ ((j : Job) → Finishes s p j → j.mode ≡ i → ⊥)
decide_end s p i = elim (decide s p) [
  | inl x ↦ by x.0 x.1 (cases_eq x.0.left 1) (cases_eq x.0.mode i)
  | inr d ↦ inr (λ j f e. d j f.served)
]
  where
    by : (j : Job) → Served s p j → ((j.left ≡ 1) ⊎ (j.left ≡ 1 → ⊥)) → ((j.mode ≡ i) ⊎ (j.mode ≡ i → ⊥)) → ((k : Job) × Finishes s p k × (k.mode ≡ i)) ⊎ ((k : Job) → Finishes s p k → k.mode ≡ i → ⊥)
    by j v (inl a) (inl b) = inl (j, record { served = v; last = a }, b)
    by j v (inr a) b = inr (λ k f e. let x = same_job s p j k v f.served.here in a (sym (ap (λ z. z.left) x) ∙ f.last))
    by j v (inl a) (inr b) = inr (λ k f e. let x = same_job s p j k v f.served.here in b (sym (ap (λ z. z.mode) x) ∙ e))

-- The longest times.
module _ (p i took : ℕ) (cells : List ℕ) where
  raised_same : i < 16 → p * 16 + i < length cells → worst_at (raised p i took cells) p i ≡ max (worst_at cells p i) took
  raised_same h l =
      ap (λ c. worst_at c p i) (cond-true (ltb i 16) (set cells (p * 16 + i) (max (worst_at cells p i) took)) cells (lt-ltb _ _ h))
      ∙ get_or-set_same cells (p * 16 + i) (max (worst_at cells p i) took) 0 l

  raised_other : (q k : ℕ) → k < 16 → (q ≡ p → k ≡ i → ⊥) → worst_at (raised p i took cells) q k ≡ worst_at cells q k
  raised_other q k h d = by (ltb i 16) refl
    where
      by : (b : Bool) → ltb i 16 ≡ b → worst_at (cond b (set cells (p * 16 + i) (max (worst_at cells p i) took)) cells) q k ≡ worst_at cells q k
      by true e =
          let l = ltb-true i 16 e in
          get_or-set_other cells (p * 16 + i) (q * 16 + k) (max (worst_at cells p i) took) 0 (λ x. d (omega arith) (omega arith))
      by false e = refl

  raised_long : length (raised p i took cells) ≡ length cells
  raised_long = by (ltb i 16)
    where
      by : (b : Bool) → length (cond b (set cells (p * 16 + i) (max (worst_at cells p i) took)) cells) ≡ length cells
      by true = length-set cells (p * 16 + i) (max (worst_at cells p i) took)
      by false = refl

pub noted_long : (now p : ℕ) (o : Option Job) (cells : List ℕ) → length (noted now p o cells) ≡ length cells
noted_long now p None cells = refl
noted_long now p (Some j) cells = by (eqb j.left 1)
  where
    by : (b : Bool) → length (cond b (raised p j.mode (now - j.release) cells) cells) ≡ length cells
    by true = raised_long p j.mode (now - j.release) cells
    by false = refl

noted_same : (now p : ℕ) (o : Option Job) (j : Job) (cells : List ℕ) → o ≡ Some j → j.left ≡ 1 → j.mode < 16 → p * 16 + j.mode < length cells → worst_at (noted now p o cells) p j.mode ≡ max (worst_at cells p j.mode) (now - j.release)
noted_same now p o j cells e one h l =
    ap (λ x. worst_at (noted now p x cells) p j.mode) e
    ∙ ap (λ c. worst_at c p j.mode) (cond-true (eqb j.left 1) (raised p j.mode (now - j.release) cells) cells (eq-eqb _ _ one))
    ∙ raised_same p j.mode (now - j.release) cells h l

noted_other : (now p : ℕ) (o : Option Job) (cells : List ℕ) (q k : ℕ) → k < 16 → ((j : Job) → o ≡ Some j → j.left ≡ 1 → q ≡ p → j.mode ≡ k → ⊥) → worst_at (noted now p o cells) q k ≡ worst_at cells q k
noted_other now p None cells q k h d = refl
noted_other now p (Some j) cells q k h d = by (eqb j.left 1) refl
  where
    by : (b : Bool) → eqb j.left 1 ≡ b → worst_at (cond b (raised p j.mode (now - j.release) cells) cells) q k ≡ worst_at cells q k
    by true e = raised_other p j.mode (now - j.release) cells q k h (λ x y. d j refl (eqb-true _ _ e) x (sym y))
    by false e = refl

-- Which place is late.
record MissFrom (m : Meaning) (now p : ℕ) (os : List (Option Job)) (q : ℕ) (j : Job) : Type 0 where
  here : job_at os q ≡ Some j
  some : 0 < j.left
  due : due_at m (p + q) j ≡ now

data Lateness (m : Meaning) (now p : ℕ) (o : Option Job) : Option (Late ℕ) → Type 0 where
  missed : (j : Job) → o ≡ Some j → 0 < j.left → due_at m p j ≡ now → Lateness m now p o (Some (record { task = p; mode = j.mode }))
  fine : ((j : Job) → o ≡ Some j → 0 < j.left → due_at m p j ≡ now → ⊥) → Lateness m now p o None

lateness : (m : Meaning) (now p : ℕ) (o : Option Job) → Lateness m now p o (late_in m now p o)
lateness m now p None = fine (λ j e l d. let z : ◌≡◌ {A = ℕ} 0 1 = cc in omega arith)
lateness m now p (Some j) = by (ltb 0 j.left) refl (eqb (due_at m p j) now) refl
  where
    by : (a : Bool) → ltb 0 j.left ≡ a → (b : Bool) → eqb (due_at m p j) now ≡ b → Lateness m now p (Some j) (cond (a && b) (Some (record { task = p; mode = j.mode })) None)
    by true e true f = missed j refl (ltb-true _ _ e) (eqb-true _ _ f)
    by true e false f = fine (λ k x l d. let y : j ≡ k = cc in eqb-false _ _ f (ap (due_at m p) y ∙ d))
    by false e b f = fine (λ k x l d. let y : j ≡ k = cc in let z = ap (λ i. i.left) y in let w = ltb-false _ _ e in omega arith)

record LateFrom (m : Meaning) (now p : ℕ) (os : List (Option Job)) (l : Late ℕ) : Type 0 where
  at : ℕ
  job : Job
  place : l.task ≡ p + at
  mode : job.mode ≡ l.mode
  misses : MissFrom m now p os at job
  above : (q : ℕ) (k : Job) → q < at → MissFrom m now p os q k → ⊥

abbrev Found : Meaning → ℕ → ℕ → List (Option Job) → Option (Late ℕ) → Type 0
Found m now p os None = (q : ℕ) (j : Job) → MissFrom m now p os q j → ⊥
Found m now p os (Some l) = LateFrom m now p os l

-- A place further down, seen from one place higher.
miss_up : (m : Meaning) (now p : ℕ) (o : Option Job) (os : List (Option Job)) (q : ℕ) (j : Job) → MissFrom m now (suc p) os q j → MissFrom m now p (o ∷ os) (suc q) j
miss_up m now p o os q j x = record { here = x.here; some = x.some; due = subst (λ k. due_at m k j ≡ now) {x = suc p + q} {y = p + suc q} (omega arith) x.due }

miss_down : (m : Meaning) (now p : ℕ) (o : Option Job) (os : List (Option Job)) (q : ℕ) (j : Job) → MissFrom m now p (o ∷ os) (suc q) j → MissFrom m now (suc p) os q j
miss_down m now p o os q j x = record { here = x.here; some = x.some; due = subst (λ k. due_at m k j ≡ now) {x = p + suc q} {y = suc p + q} (omega arith) x.due }

miss_here : (m : Meaning) (now p : ℕ) (o : Option Job) (os : List (Option Job)) (j : Job) → ((k : Job) → o ≡ Some k → 0 < k.left → due_at m p k ≡ now → ⊥) → MissFrom m now p (o ∷ os) 0 j → ⊥
miss_here m now p o os j d x = d j x.here x.some (subst (λ k. due_at m k j ≡ now) {x = p + 0} {y = p} (omega arith) x.due)

found_next : (m : Meaning) (now p : ℕ) (o : Option Job) (os : List (Option Job)) (r rest : Option (Late ℕ)) → Lateness m now p o r → Found m now (suc p) os rest → Found m now p (o ∷ os) (or_else r rest)
found_next m now p o os r rest (missed j e l d) f = record {
  at = 0;
  job = j;
  place = omega arith;
  mode = refl;
  misses = record { here = e; some = l; due = subst (λ k. due_at m k j ≡ now) {x = p} {y = p + 0} (omega arith) d };
  above = λ q k h x. omega arith;
}
found_next m now p o os r None (fine d) f = none
  where
    none : (q : ℕ) (j : Job) → MissFrom m now p (o ∷ os) q j → ⊥
    none zero j x = miss_here m now p o os j d x
    none (suc q) j x = f q j (miss_down m now p o os q j x)
found_next m now p o os r (Some l) (fine d) f = record {
  at = suc f.at;
  job = f.job;
  place = let e = f.place in omega arith;
  mode = f.mode;
  misses = miss_up m now p o os f.at f.job f.misses;
  above = up;
}
  where
    up : (q : ℕ) (k : Job) → q < suc f.at → MissFrom m now p (o ∷ os) q k → ⊥
    up zero k h x = miss_here m now p o os k d x
    up (suc q) k h x = f.above q k (omega arith) (miss_down m now p o os q k x)

found : (m : Meaning) (now p : ℕ) (os : List (Option Job)) → Found m now p os (first_late m now p os)
found m now p [] = λ q j x. let h = x.here in let z : ◌≡◌ {A = ℕ} 0 1 = cc in omega arith
found m now p (o ∷ os) = found_next m now p o os (late_in m now p o) (first_late m now (suc p) os) (lateness m now p o) (found m now (suc p) os)

miss_from : (m : Meaning) (now : ℕ) (os : List (Option Job)) (q : ℕ) (j : Job) → Misses m now os q j → MissFrom m now 0 os q j
miss_from m now os q j x = record { here = x.here; some = x.some; due = subst (λ k. due_at m k j ≡ now) (sym (zero-add q)) x.due }

from_miss : (m : Meaning) (now : ℕ) (os : List (Option Job)) (q p : ℕ) (j : Job) → p ≡ 0 + q → MissFrom m now 0 os q j → Misses m now os p j
from_miss m now os q p j e x = record { here = subst (λ k. job_at os k ≡ Some j) (sym (e ∙ zero-add q)) x.here; some = x.some; due = subst (λ k. due_at m k j ≡ now) (sym e) x.due }

late_now : (m : Meaning) (now : ℕ) (os : List (Option Job)) (r : Option (Late ℕ)) → Found m now 0 os r → LateNow m now os r
late_now m now os None f = λ q j x. f q j (miss_from m now os q j x)
late_now m now os (Some l) f = record {
  job = f.job;
  misses = from_miss m now os f.at l.task f.job f.place f.misses;
  mode = f.mode;
  above = λ q k h x. f.above q k (let e = f.place in omega arith) (miss_from m now os q k x);
}

one_late : (m : Meaning) (now : ℕ) (os : List (Option Job)) (a b : Option (Late ℕ)) → LateNow m now os a → LateNow m now os b → a ≡ b
one_late m now os None None f g = refl
one_late m now os None (Some l) f g = absurd (f l.task g.job g.misses)
one_late m now os (Some l) None f g = absurd (g l.task f.job f.misses)
one_late m now os (Some l) (Some n) f g = elim (cases_order l.task n.task) [
  | inl e ↦
      let x : job_at os n.task ≡ Some f.job = subst (λ k. job_at os k ≡ Some f.job) e f.misses.here in
      let y = g.misses.here in
      let z : f.job ≡ g.job = cc in
      same l.task n.task l.mode n.mode e (sym f.mode ∙ ap (λ j. j.mode) z ∙ g.mode)
  | inr d ↦ elim d [ inl h ↦ absurd (g.above l.task f.job h f.misses) | inr h ↦ absurd (f.above n.task g.job h g.misses) ]
]
  where
    same : (p q i j : ℕ) → p ≡ q → i ≡ j → ◌≡◌ {A = Option (Late ℕ)} (Some (record { task = p; mode = i })) (Some (record { task = q; mode = j }))
    same p q i j a b = λ x. Some (record { task = a x; mode = b x })

-- The computed tick keeps the rules.
module _ (m : Meaning) (s : Course) (w : Whole s) where
  tick_works : (p : ℕ) (j : Job) → Served s p j → job_at (ticked m s).jobs p ≡ Some (less 1 j)
  tick_works p j v =
      subst (λ k. job_at (set s.jobs k (served 1 (job_at s.jobs k))) p ≡ Some (less 1 j)) (sym (served_idle s p j v))
      (given_same s.jobs p 1 ∙ ap (served 1) v.here)

  tick_rests : (p : ℕ) → ((j : Job) → Served s p j → ⊥) → job_at (ticked m s).jobs p ≡ job_at s.jobs p
  tick_rests p d = given_cases (λ k o. o ≡ job_at s.jobs k) s.jobs (idle_above s.jobs) 1 p (λ e. by (job_at s.jobs p) refl e) (λ _. refl)
    where
      by : (o : Option Job) → job_at s.jobs p ≡ o → p ≡ idle_above s.jobs → served 1 o ≡ o
      by None h e = refl
      by (Some j) h e = absurd (d j (idle_served s p j (sym e) h))

  tick_ends : (p : ℕ) (j : Job) → Finishes s p j → worst_at (ticked m s).worst p j.mode ≡ max (worst_at s.worst p j.mode) (s.clock + 1 - j.release)
  tick_ends p j f =
      let v = f.served in
      let few = w.modes p j v.here in
      let in_line = job_within s.jobs p j v.here in
      let pl = w.places in
      let ti = w.times in
      subst (λ k. worst_at (noted (s.clock + 1) k (job_at s.jobs k) s.worst) p j.mode ≡ max (worst_at s.worst p j.mode) (s.clock + 1 - j.release)) (sym (served_idle s p j v))
      (noted_same (s.clock + 1) p (job_at s.jobs p) j s.worst v.here f.last few (omega arith))

  tick_keeps : (p i : ℕ) → i < 16 → ((j : Job) → Finishes s p j → j.mode ≡ i → ⊥) → worst_at (ticked m s).worst p i ≡ worst_at s.worst p i
  tick_keeps p i h d =
      noted_other (s.clock + 1) (idle_above s.jobs) (job_at s.jobs (idle_above s.jobs)) s.worst p i h
      (λ j e one x y. d j (record { served = idle_served s p j (sym x) (subst (λ k. job_at s.jobs k ≡ Some j) (sym x) e); last = one }) y)

  pub tick_ruled : Tick m s (ticked m s)
  tick_ruled = record {
    clock = refl;
    places = length-set s.jobs (idle_above s.jobs) (served 1 (job_at s.jobs (idle_above s.jobs)));
    works = tick_works;
    rests = tick_rests;
    times = noted_long (s.clock + 1) (idle_above s.jobs) (job_at s.jobs (idle_above s.jobs)) s.worst;
    ends = tick_ends;
    keeps = tick_keeps;
    late = late_now m (s.clock + 1) (ticked m s).jobs (ticked m s).late (found m (s.clock + 1) 0 (ticked m s).jobs);
  }

-- The rules allow one tick only.
module _ (m : Meaning) (s t u : Course) (a : Tick m s t) (b : Tick m s u) where
  one_job : (p : ℕ) → job_at t.jobs p ≡ job_at u.jobs p
  one_job p = elim (decide s p) [ inl x ↦ a.works p x.0 x.1 ∙ sym (b.works p x.0 x.1) | inr d ↦ a.rests p d ∙ sym (b.rests p d) ]

  one_time : (p i : ℕ) → i < 16 → worst_at t.worst p i ≡ worst_at u.worst p i
  one_time p i h = elim (decide_end s p i) [
    | inl x ↦ subst (λ k. worst_at t.worst p k ≡ worst_at u.worst p k) x.2 (a.ends p x.0 x.1 ∙ ap (λ c. max (worst_at s.worst p x.0.mode) (c - x.0.release)) (a.clock ∙ sym b.clock) ∙ sym (b.ends p x.0 x.1))
    | inr d ↦ a.keeps p i h d ∙ sym (b.keeps p i h d)
  ]

  one_tick : t ≡ u
  one_tick =
      let jobs : t.jobs ≡ u.jobs = ext_get_or None t.jobs u.jobs (a.places ∙ sym b.places) (λ p h. one_job p) in
      let worst : t.worst ≡ u.worst = ext_get_or 0 t.worst u.worst (a.times ∙ sym b.times) (λ n h.
      let e : n / 16 * 16 + n % 16 ≡ n = omega arith in
      subst (λ k. get_or t.worst k 0 ≡ get_or u.worst k 0) e (one_time (n / 16) (n % 16) (omega arith))) in
      let clock : t.clock ≡ u.clock = a.clock ∙ sym b.clock in
      let late : t.late ≡ u.late = one_late m u.clock u.jobs t.late u.late (subst (λ j. LateNow m u.clock j t.late) jobs (subst (λ c. LateNow m c t.jobs t.late) clock a.late)) b.late in
      same_course t.clock u.clock t.jobs u.jobs t.worst u.worst t.late u.late clock jobs worst late

pub tick_by_rules : TickByRules
tick_by_rules m s t w = (
  λ a. one_tick m s t (ticked m s) a (tick_ruled m s w),
  λ e. subst (Tick m s) (sym e) (tick_ruled m s w),
)
