-- The jobs of the places as a list. Assumes nothing.
use Rattle.std.proofs.Common.{◌≡◌, ℕ, zero, suc, ◌+◌, ◌-◌, ◌<◌, ◌≤◌, Bool, true, false, cond, ltb, List, [], ◌∷◌, length, set, fold, MatchOption, Some, None, Option, sym, refl, ap, ◌∙◌, subst, inl, inr, zero-add, arith}
use Rattle.std.proofs.lemmas.Bool.{cases_lt, cases_eq, ltb-true, ltb-false, lt-ltb, le-ltb}
use Rattle.std.proofs.lemmas.List.{set-get_or, get_or-set_same, get_or-set_other, get_or_past, set_past}
use Rattle.std.specs.List.{enumerate_from}
use Rattle.std.proofs.lemmas.Bool.Decides.{nat_tests}
use Rattle.line.specs.Meaning.{Meaning}
use Rattle.run.specs.declared.Job.{Job}
use Rattle.run.specs.declared.Late.{Late}
use Rattle.run.specs.Course.{Course, job_at, left_of}
use Rattle.run.specs.Ticks.{idle_above, served, late_in, first_late}
use Rattle.run.specs.Steps.{busy, undue, undue_all}

-- The parts of a run, one by one.
pub same_course : (c d : ℕ) (j k : List (Option Job)) (w v : List ℕ) (l n : Option (Late ℕ)) → c ≡ d → j ≡ k → w ≡ v → l ≡ n →
    ◌≡◌ {A = Course} (record { clock = c; jobs = j; worst = w; late = l }) (record { clock = d; jobs = k; worst = v; late = n })
same_course c d j k w v l n pc pj pw pl = λ i. record { clock = pc i; jobs = pj i; worst = pw i; late = pl i }

pub idle_here : (o : Option Job) (os : List (Option Job)) → 0 < left_of o → idle_above (o ∷ os) ≡ 0
idle_here o os h = grind (arith, nat_tests)

pub idle_skip : (o : Option Job) (os : List (Option Job)) → left_of o ≡ 0 → idle_above (o ∷ os) ≡ suc (idle_above os)
idle_skip o os h = grind (arith, nat_tests)

-- Above the place that is served no work is left.
pub idle_none : (os : List (Option Job)) (q : ℕ) → q < idle_above os → left_of (job_at os q) ≡ 0
idle_none [] q h = refl
idle_none (o ∷ os) zero h = grind (arith, nat_tests)
idle_none (o ∷ os) (suc q) h = idle_none os q (grind (arith, nat_tests))

idle_some_by : (o : Option Job) (os : List (Option Job)) (t : ℕ) (b : Bool) → ltb 0 (left_of o) ≡ b → cond b 0 (suc t) < suc (length os) → (t < length os → 0 < left_of (job_at os t)) → 0 < left_of (job_at (o ∷ os) (cond b 0 (suc t)))
idle_some_by o os t true e h ih = ltb-true _ _ e
idle_some_by o os t false e h ih = ih (omega arith)

-- The place that is served has work left.
pub idle_some : (os : List (Option Job)) → idle_above os < length os → 0 < left_of (job_at os (idle_above os))
idle_some [] h = absurd (omega arith)
idle_some (o ∷ os) h = idle_some_by o os (idle_above os) (ltb 0 (left_of o)) refl h (λ k. idle_some os k)

pub job_past : (os : List (Option Job)) (p : ℕ) → length os ≤ p → job_at os p ≡ None
job_past os p h = get_or_past os p None h

-- A place that has a job is one of the places.
pub job_within : (os : List (Option Job)) (p : ℕ) (j : Job) → job_at os p ≡ Some j → p < length os
job_within os p j e = elim (cases_lt p (length os)) [ inl h ↦ h | inr h ↦ let n = job_past os p h in let z : ◌≡◌ {A = ℕ} 0 1 = cc in absurd (omega arith) ]

-- The first place with work left is the one that is served.
pub idle_is : (os : List (Option Job)) (p : ℕ) → 0 < left_of (job_at os p) → ((q : ℕ) → q < p → left_of (job_at os q) ≡ 0) → idle_above os ≡ p
idle_is os p some none =
    elim (cases_lt (idle_above os) p) [
      | inl h ↦ elim (cases_lt (idle_above os) (length os)) [
        | inl k ↦ let a = idle_some os k in let z = none (idle_above os) h in absurd (omega arith)
        | inr k ↦ let z = ap left_of (job_past os p (omega arith)) in absurd (omega arith)
      ]
      | inr h ↦ elim (cases_lt p (idle_above os)) [ inl k ↦ let z = idle_none os p k in absurd (omega arith) | inr k ↦ omega arith ]
    ]

-- Where only places without work stand before the one found, or where none is found, it is the one that is served.
pub busy_found : (os : List (Option Job)) (r : Option ℕ) →
    MatchOption r ((k : ℕ) → k < length os → left_of (job_at os k) ≡ 0) (λ i. (i < length os) × (0 < left_of (job_at os i)) × ((k : ℕ) → k < i → left_of (job_at os k) ≡ 0)) →
    r ≡ busy os
busy_found os None none = elim (cases_lt (idle_above os) (length os)) [ inl h ↦ let a = idle_some os h in let z = none (idle_above os) h in absurd (omega arith) | inr h ↦ rw le-ltb ]
busy_found os (Some i) (h, some, none) = let e = idle_is os i some none in rw (e, lt-ltb)

-- With some work still left there, the same place is served.
pub idle_kept : (os : List (Option Job)) (o : Option Job) → (idle_above os < length os → 0 < left_of o) → idle_above (set os (idle_above os) o) ≡ idle_above os
idle_kept [] o h = refl
idle_kept (x ∷ os) o h = by (ltb 0 (left_of x)) refl (λ k. idle_kept os o k)
  where
    by : (b : Bool) → ltb 0 (left_of x) ≡ b → ((idle_above os < length os → 0 < left_of o) → idle_above (set os (idle_above os) o) ≡ idle_above os) → idle_above (set (x ∷ os) (idle_above (x ∷ os)) o) ≡ idle_above (x ∷ os)
    by true e rest =
        let z = idle_here x os (ltb-true _ _ e) in
        ap (λ k. idle_above (set (x ∷ os) k o)) z ∙ idle_here o os (h (omega arith)) ∙ sym z
    by false e rest =
        let n : left_of x ≡ 0 = omega (arith, ltb-false _ _ e) in
        let s = idle_skip x os n in
        let ih = rest (λ l. h (omega arith)) in
        ap (λ k. idle_above (set (x ∷ os) k o)) s ∙ idle_skip x (set os (idle_above os) o) n ∙ ap suc ih ∙ sym s

served_none : (o : Option Job) → served 0 o ≡ o
served_none None = refl
served_none (Some j) = ap (λ n. Some (record { mode = j.mode; release = j.release; left = n })) {y = j.left} (omega arith)

pub served_more : (n : ℕ) (o : Option Job) → served 1 (served n o) ≡ served (suc n) o
served_more n None = refl
served_more n (Some j) = ap (λ k. Some (record { mode = j.mode; release = j.release; left = k })) {x = j.left - n - 1} {y = j.left - suc n} (omega arith)

pub left_served : (n : ℕ) (o : Option Job) → left_of (served n o) ≡ left_of o - n
left_served n None = omega arith
left_served n (Some j) = refl

pub give_none : (os : List (Option Job)) (p : ℕ) → set os p (served 0 (job_at os p)) ≡ os
give_none os p = ap (set os p) (served_none (job_at os p)) ∙ set-get_or os p None

-- The job of a place after it got n units.
pub given_same : (os : List (Option Job)) (p n : ℕ) → job_at (set os p (served n (job_at os p))) p ≡ served n (job_at os p)
given_same os p n =
    elim (cases_lt p (length os)) [
      | inl h ↦ get_or-set_same os p (served n (job_at os p)) None h
      | inr h ↦ ap (λ l. job_at l p) (set_past os p (served n (job_at os p)) h) ∙ job_past os p h ∙ sym (ap (served n) (job_past os p h))
    ]

pub given_other : (os : List (Option Job)) (p q : ℕ) (o : Option Job) → (q ≡ p → ⊥) → job_at (set os p o) q ≡ job_at os q
given_other os p q o d = get_or-set_other os p q o None d

-- What holds of the job that got its units, and of the others as they were.
pub given_cases : (P : ℕ → Option Job → Type 0) (os : List (Option Job)) (p n q : ℕ) → (q ≡ p → P q (served n (job_at os q))) → ((q ≡ p → ⊥) → P q (job_at os q)) → P q (job_at (set os p (served n (job_at os p))) q)
given_cases P os p n q same other =
    elim (cases_eq q p) [
      | inl e ↦ subst (λ k. P q (job_at (set os k (served n (job_at os k))) q)) e (subst (P q) (sym (given_same os q n)) (same e))
      | inr d ↦ subst (P q) (sym (given_other os p q (served n (job_at os p)) d)) (other d)
    ]

-- No place is late if none is.
pub late_none : (m : Meaning) (now p : ℕ) (os : List (Option Job)) → ((q : ℕ) → late_in m now (p + q) (job_at os q) ≡ None) → first_late m now p os ≡ None
late_none m now p [] h = refl
late_none m now p (o ∷ os) h =
    let here : late_in m now p o ≡ None = subst (λ k. late_in m now k o ≡ None) {x = p + 0} {y = p} (omega arith) (h 0) in
    let rest = late_none m now (suc p) os (λ q. subst (λ k. late_in m now k (job_at os q) ≡ None) {x = p + suc q} {y = suc p + q} (omega arith) (h (suc q))) in
    rw (here, rest)

late_next : (m : Meaning) (now p : ℕ) (o : Option Job) (os : List (Option Job)) → late_in m now p o ≡ None → first_late m now p (o ∷ os) ≡ first_late m now (p + 1) os
late_next m now p o os e = rw e (ap (λ k. first_late m now k os) {x = suc p} {y = p + 1} (omega arith))

late_here : (m : Meaning) (now p : ℕ) (o : Option Job) (os : List (Option Job)) (l : Late ℕ) → late_in m now p o ≡ Some l → first_late m now p (o ∷ os) ≡ Some l
late_here m now p o os l e = rw e

-- The first place that is late is the highest one.
late_first : (m : Meaning) (now p : ℕ) (os : List (Option Job)) (i : ℕ) (l : Late ℕ) → late_in m now (p + i) (job_at os i) ≡ Some l → ((k : ℕ) → k < i → late_in m now (p + k) (job_at os k) ≡ None) → first_late m now p os ≡ Some l
late_first m now p [] i l e none = cc
late_first m now p (o ∷ os) zero l e none = late_here m now p o os l (subst (λ k. late_in m now k o ≡ Some l) {x = p + 0} {y = p} (omega arith) e)
late_first m now p (o ∷ os) (suc i) l e none =
    late_next m now p o os (subst (λ k. late_in m now k o ≡ None) {x = p + 0} {y = p} (omega arith) (none 0 (omega arith)))
    ∙ late_first m now (p + 1) os i l (subst (λ k. late_in m now k (job_at os i) ≡ Some l) {x = p + suc i} {y = p + 1 + i} (omega arith) e)
    (λ k h. subst (λ q. late_in m now q (job_at os k) ≡ None) {x = p + suc k} {y = p + 1 + k} (omega arith) (none (suc k) (omega arith)))

-- What is found of the places in turn.
pub late_found : (m : Meaning) (now : ℕ) (os : List (Option Job)) (r : Option (Late ℕ)) →
    MatchOption r ((k : ℕ) → k < length os → late_in m now k (job_at os k) ≡ None) (λ l. (i : ℕ) × (i < length os) × (late_in m now i (job_at os i) ≡ Some l) × ((k : ℕ) → k < i → late_in m now k (job_at os k) ≡ None)) →
    r ≡ first_late m now 0 os
late_found m now os None none =
    sym (late_none m now 0 os (λ q.
    rw (zero-add q) (elim (cases_lt q (length os)) [ inl h ↦ none q h | inr h ↦ ap (late_in m now q) (job_past os q h) ])))
late_found m now os (Some l) (i, h, e, none) = sym (late_first m now 0 os i l (rw (zero-add i) e) (λ k b. rw (zero-add k) (none k b)))

undue_next : (m : Meaning) (now p : ℕ) (o : Option Job) (os : List (Option Job)) (n : ℕ) → undue_all m now p (o ∷ os) n ≡ undue_all m now (p + 1) os (undue m now p o n)
undue_next m now p o os n = ap (λ k. undue_all m now k os (undue m now p o n)) {x = suc p} {y = p + 1} (omega arith)

pub undue_fold : (m : Meaning) (now p : ℕ) (os : List (Option Job)) (n : ℕ) → fold (λ k q. undue m now q.0 q.1 k) n (enumerate_from p os) ≡ undue_all m now p os n
undue_fold m now p [] n = refl
undue_fold m now p (o ∷ os) n = undue_fold m now (p + 1) os (undue m now p o n) ∙ sym (undue_next m now p o os n)
