-- The runs that the rules allow are the computed ones. Assumes nothing.
use Rattle.std.proofs.Common.{◌≡◌, ℕ, zero, suc, ◌+◌, ◌<◌, ◌≤◌, Bool, true, false, cond, ◌||◌, eqb, ltb, leb, List, [], ◌∷◌, replicate, is_some, is_ok, Some, None, Ok, Err, Option, Result, sym, refl, ap, ◌∙◌, subst, inl, inr, arith, length-set}
use Rattle.std.proofs.lemmas.Bool.{cases_eq, cases_Bool, true≢false, false≢true, leb-true, leb-false, ltb-false, le-leb, lt-leb, le-ltb, cond-true, cond-false}
use Rattle.std.proofs.lemmas.List.{get_or-set_same, ext_get_or}
use Rattle.std.proofs.lemmas.Bool.Decides.{nat_tests}
use Rattle.line.specs.declared.refusal.Refusal.{Refusal}
use Rattle.line.specs.declared.refusal.Refusal.TheVariants.{OutOfRange, NotThere, CostAboveMode, NotYet, EndedLate, PastClock}
use Rattle.line.specs.Meaning.{Meaning, task_at, modes_in, cost_in, gap_in}
use Rattle.run.specs.declared.Job.{Job}
use Rattle.run.specs.declared.Late.{Late}
use Rattle.run.specs.Course.{Course, fresh, job_at}
use Rattle.run.specs.Ticks.{idle_above, less, served, ticked, after_ticks}
use Rattle.run.specs.Calls.{passed, ready, release_answer, released, after_release, may_advance, Call, release, advance, after_call, after_calls}
use Rattle.run.specs.Rules.{Whole, Passes, over, ended, tick, MayRelease, Release, MayAdvance, Step, gives, refuses, goes, stays, Runs, done, then, RunsByRules}
use Rattle.run.proofs.Slots.{same_course, given_cases, given_other}
use Rattle.run.proofs.Calms.{ticks_done, ticks_late, ticks_more}
use Rattle.run.proofs.Ruling.{noted_long, tick_ruled, tick_by_rules}

-- Every run has its 16 places and its 256 times.
served_mode : (n top : ℕ) (o : Option Job) (j : Job) → ((k : Job) → o ≡ Some k → k.mode < top) → served n o ≡ Some j → j.mode < top
served_mode n top None j h e = let z : ◌≡◌ {A = ℕ} 0 1 = cc in absurd (omega arith)
served_mode n top (Some k) j h e = let x : less n k ≡ j = cc in let y = ap (λ i. i.mode) x in let z = h k refl in omega arith

pub whole_tick : (m : Meaning) (s : Course) → Whole s → Whole (ticked m s)
whole_tick m s w = record {
  places = length-set s.jobs (idle_above s.jobs) (served 1 (job_at s.jobs (idle_above s.jobs))) ∙ w.places;
  times = noted_long (s.clock + 1) (idle_above s.jobs) (job_at s.jobs (idle_above s.jobs)) s.worst ∙ w.times;
  modes = λ p j e. given_cases (λ k o. o ≡ Some j → j.mode < 16) s.jobs (idle_above s.jobs) 1 p (λ _ f. served_mode 1 16 (job_at s.jobs p) j (w.modes p) f) (λ _ f. w.modes p j f) e;
}

whole_by : (m : Meaning) (n : ℕ) (s : Course) (b : Bool) → Whole s → (Whole (ticked m s) → Whole (after_ticks m n (ticked m s))) → Whole (cond b s (after_ticks m n (ticked m s)))
whole_by m n s true w h = w
whole_by m n s false w h = h (whole_tick m s w)

pub whole_ticks : (m : Meaning) (n : ℕ) (s : Course) → Whole s → Whole (after_ticks m n s)
unfolding after_ticks
whole_ticks m zero s w = w
whole_ticks m (suc n) s w = whole_by m n s (is_some s.late) w (λ v. whole_ticks m n (ticked m s) v)

-- Ticks by the rules.
passes_only : (m : Meaning) {n : ℕ} {s t : Course} → Whole s → Passes m n s t → t ≡ after_ticks m n s
passes_only m {n} {s} w over = sym (ticks_done m s)
passes_only m {n} {s} w (ended {n = k} e) = sym (ticks_late m (suc k) s (ap is_some e))
passes_only m {n} {s} w (tick {n = k} {t = t} on a rest) =
    let e = (tick_by_rules m s t w).0 a in
    passes_only m (subst Whole (sym e) (whole_tick m s w)) rest ∙ ap (after_ticks m k) e ∙ sym (ticks_more m k s on)

passes_by : (m : Meaning) (n : ℕ) (s : Course) (o : Option (Late ℕ)) → s.late ≡ o → Whole s → Passes m n (ticked m s) (after_ticks m n (ticked m s)) → Passes m (suc n) s (after_ticks m (suc n) s)
passes_by m n s None e w rest = subst (Passes m (suc n) s) (sym (ticks_more m n s e)) (tick e (tick_ruled m s w) rest)
passes_by m n s (Some l) e w rest = subst (Passes m (suc n) s) (sym (ticks_late m (suc n) s (ap is_some e))) (ended e)

passes_made : (m : Meaning) (n : ℕ) (s : Course) → Whole s → Passes m n s (after_ticks m n s)
passes_made m zero s w = subst (Passes m 0 s) (sym (ticks_done m s)) over
passes_made m (suc n) s w = passes_by m n s s.late refl w (passes_made m n (ticked m s) (whole_tick m s w))

-- What the refusals leave.
not_refused : {A : Type 0} (b : Bool) (e : Refusal) (r : Result A Refusal) → is_ok (cond b (Err e) r) ≡ true → (b ≡ false) × (is_ok r ≡ true)
not_refused true e r h = absurd (false≢true h)
not_refused false e r h = (refl, h)

not_else : {A : Type 0} (b : Bool) (e : Refusal) (r : Result A Refusal) → is_ok (cond b r (Err e)) ≡ true → (b ≡ true) × (is_ok r ≡ true)
not_else true e r h = (refl, h)
not_else false e r h = absurd (false≢true h)

none_late : (o : Option (Late ℕ)) → is_some o ≡ false → o ≡ None
none_late None e = refl
none_late (Some l) e = absurd (true≢false e)

passed_gap : (o : Option ℕ) (from now : ℕ) → passed o from now ≡ true → (g : ℕ) × (o ≡ Some g) × (from + g ≤ now)
passed_gap None from now e = absurd (false≢true e)
passed_gap (Some g) from now e = (g, refl, leb-true _ _ e)

gap_passed : (o : Option ℕ) (from now g : ℕ) → o ≡ Some g → from + g ≤ now → passed o from now ≡ true
gap_passed o from now g e h = ap (λ x. passed x from now) e ∙ le-leb _ _ h

module _ (m : Meaning) (s : Course) (p i c : ℕ) where
  pub may_release : is_ok (release_answer m s p i c) ≡ true → MayRelease m s p i c
  may_release e =
      let a = not_refused (leb 16 p || leb 16 i || eqb c 0 || ltb 1000 c) OutOfRange _ e in
      let b = not_refused (leb (modes_in (task_at m p)) i) NotThere _ a.1 in
      let d = not_refused (ltb (cost_in (task_at m p) i) c) CostAboveMode _ b.1 in
      let f = not_else (ready m p i s.clock (job_at s.jobs p)) NotYet _ d.1 in
      let g = not_refused (is_some s.late) EndedLate (Ok tt) f.1 in
      let range : (leb 16 p || leb 16 i || eqb c 0 || ltb 1000 c) ≡ false = a.0 in
      record {
        place = grind (arith, nat_tests);
        mode = grind (arith, nat_tests);
        there = leb-false _ _ b.0;
        some = grind (arith, nat_tests);
        few = grind (arith, nat_tests);
        cost = ltb-false _ _ d.0;
        apart = λ j h. passed_gap (gap_in (task_at m p) j.mode i) j.release s.clock (subst (λ o. ready m p i s.clock o ≡ true) h f.0);
        on = none_late s.late g.0;
      }

  is_ready : (o : Option Job) → job_at s.jobs p ≡ o → MayRelease m s p i c → ready m p i s.clock o ≡ true
  is_ready None e r = refl
  is_ready (Some j) e r = let g = r.apart j e in gap_passed (gap_in (task_at m p) j.mode i) j.release s.clock g.0 g.1 g.2

  released_ok : MayRelease m s p i c → is_ok (release_answer m s p i c) ≡ true
  released_ok r =
      let a = r.place in
      let b = r.mode in
      let d = r.some in
      let f = r.few in
      let range : (leb 16 p || leb 16 i || eqb c 0 || ltb 1000 c) ≡ false = grind (arith, nat_tests) in
      ap is_ok (
      cond-false (leb 16 p || leb 16 i || eqb c 0 || ltb 1000 c) (Err OutOfRange) _ range
      ∙ cond-false (leb (modes_in (task_at m p)) i) (Err NotThere) _ (lt-leb _ _ r.there)
      ∙ cond-false (ltb (cost_in (task_at m p) i) c) (Err CostAboveMode) _ (le-ltb _ _ r.cost)
      ∙ cond-true (ready m p i s.clock (job_at s.jobs p)) _ (Err NotYet) (is_ready (job_at s.jobs p) refl r)
      ∙ cond-false (is_some s.late) (Err EndedLate) (Ok tt) (ap is_some r.on))

  refused_not : (MayRelease m s p i c → ⊥) → is_ok (release_answer m s p i c) ≡ false
  refused_not d = elim (cases_Bool (is_ok (release_answer m s p i c))) [ inl e ↦ absurd (d (may_release e)) | inr e ↦ e ]

  release_made : Whole s → p < 16 → Release s p i c (released s p i c)
  release_made w h = record {
    clock = refl;
    places = length-set s.jobs p (Some (record { mode = i; release = s.clock; left = c }));
    here = let l = w.places in get_or-set_same s.jobs p (Some (record { mode = i; release = s.clock; left = c })) None (omega arith);
    rests = λ q d. given_other s.jobs p q (Some (record { mode = i; release = s.clock; left = c })) d;
    worst = refl;
    late = refl;
  }

  one_release : (t u : Course) → Release s p i c t → Release s p i c u → t ≡ u
  one_release t u a b =
      same_course t.clock u.clock t.jobs u.jobs t.worst u.worst t.late u.late (a.clock ∙ sym b.clock)
      (ext_get_or None t.jobs u.jobs (a.places ∙ sym b.places) (λ q _. elim (cases_eq q p) [
        | inl e ↦ subst (λ k. job_at t.jobs k ≡ job_at u.jobs k) (sym e) (a.here ∙ sym b.here)
        | inr d ↦ a.rests q d ∙ sym (b.rests q d)
      ]))
      (a.worst ∙ sym b.worst) (a.late ∙ sym b.late)

  whole_released : Whole s → MayRelease m s p i c → Whole (released s p i c)
  whole_released w r = record {
    places = length-set s.jobs p (Some (record { mode = i; release = s.clock; left = c })) ∙ w.places;
    times = w.times;
    modes = λ q j e. elim (cases_eq q p) [
      | inl x ↦
          let f : job_at (released s p i c).jobs p ≡ Some j = subst (λ k. job_at (released s p i c).jobs k ≡ Some j) x e in
          let h = (release_made w r.place).here in
          let y : ◌≡◌ {A = Job} (record { mode = i; release = s.clock; left = c }) j = cc in
          let z = ap (λ k. k.mode) y in
          let l = r.mode in
          omega arith
      | inr d ↦ w.modes q j (sym ((release_made w r.place).rests q d) ∙ e)
    ];
  }

  pub whole_release : Whole s → Whole (after_release m s p i c)
  whole_release w = by (is_ok (release_answer m s p i c)) refl
    where
      by : (b : Bool) → is_ok (release_answer m s p i c) ≡ b → Whole (cond b (released s p i c) s)
      by true e = whole_released w (may_release e)
      by false e = w

module _ (s : Course) (n : ℕ) where
  pub may_advance_lem : is_ok (may_advance s n) ≡ true → MayAdvance s n
  may_advance_lem e =
      let a = not_refused (eqb n 0 || ltb 1000 n) OutOfRange _ e in
      let b = not_refused (is_some s.late) EndedLate _ a.1 in
      let d = not_refused (ltb 1000000 (s.clock + n)) PastClock (Ok tt) b.1 in
      let range : (eqb n 0 || ltb 1000 n) ≡ false = a.0 in
      record { some = grind (arith, nat_tests); few = grind (arith, nat_tests); on = none_late s.late b.0; clock = ltb-false _ _ d.0 }

  advanced_ok : MayAdvance s n → is_ok (may_advance s n) ≡ true
  advanced_ok r =
      let a = r.some in
      let b = r.few in
      let range : (eqb n 0 || ltb 1000 n) ≡ false = grind (arith, nat_tests) in
      ap is_ok (
      cond-false (eqb n 0 || ltb 1000 n) (Err OutOfRange) _ range
      ∙ cond-false (is_some s.late) (Err EndedLate) _ (ap is_some r.on)
      ∙ cond-false (ltb 1000000 (s.clock + n)) (Err PastClock) (Ok tt) (le-ltb _ _ r.clock))

  advance_not : (MayAdvance s n → ⊥) → is_ok (may_advance s n) ≡ false
  advance_not d = elim (cases_Bool (is_ok (may_advance s n))) [ inl e ↦ absurd (d (may_advance_lem e)) | inr e ↦ e ]

-- One call by the rules.
step_only : (m : Meaning) {c : Call} {s t : Course} → Whole s → Step m c s t → t ≡ after_call m c s
step_only m {c} {s} {t} w (gives {p = p} {i = i} {c = k} may r) =
    one_release m s p i k t (released s p i k) r (release_made m s p i k w may.place)
    ∙ sym (cond-true (is_ok (release_answer m s p i k)) (released s p i k) s (released_ok m s p i k may))
step_only m {c} {s} w (refuses {p = p} {i = i} {c = k} d) = sym (cond-false (is_ok (release_answer m s p i k)) (released s p i k) s (refused_not m s p i k d))
step_only m {c} {s} w (goes {n = n} may r) = passes_only m w r ∙ sym (cond-true (is_ok (may_advance s n)) (after_ticks m n s) s (advanced_ok s n may))
step_only m {c} {s} w (stays {n = n} d) = sym (cond-false (is_ok (may_advance s n)) (after_ticks m n s) s (advance_not s n d))

step_made : (m : Meaning) (c : Call) (s : Course) → Whole s → Step m c s (after_call m c s)
step_made m (release p i c) s w = by (is_ok (release_answer m s p i c)) refl
  where
    by : (b : Bool) → is_ok (release_answer m s p i c) ≡ b → Step m (release p i c) s (cond b (released s p i c) s)
    by true e = let may = may_release m s p i c e in gives may (release_made m s p i c w may.place)
    by false e = refuses (λ may. false≢true (sym e ∙ released_ok m s p i c may))
step_made m (advance n) s w = by (is_ok (may_advance s n)) refl
  where
    by : (b : Bool) → is_ok (may_advance s n) ≡ b → Step m (advance n) s (cond b (after_ticks m n s) s)
    by true e = goes (may_advance_lem s n e) (passes_made m n s w)
    by false e = stays (λ may. false≢true (sym e ∙ advanced_ok s n may))

pub whole_call : (m : Meaning) (c : Call) (s : Course) → Whole s → Whole (after_call m c s)
whole_call m (release p i c) s w = whole_release m s p i c w
whole_call m (advance n) s w = by (is_ok (may_advance s n))
  where
    by : (b : Bool) → Whole (cond b (after_ticks m n s) s)
    by true = whole_ticks m n s w
    by false = w

pub none_there : (n p : ℕ) → job_at (replicate n None) p ≡ None
none_there zero p = refl
none_there (suc n) zero = refl
none_there (suc n) (suc p) = none_there n p

pub whole_fresh : Whole fresh
whole_fresh = record { places = refl; times = refl; modes = λ p j e. let n = none_there 16 p in let z : ◌≡◌ {A = ℕ} 0 1 = cc in absurd (omega arith) }

-- Lists of calls by the rules.
runs_only : (m : Meaning) {cs : List Call} {s t : Course} → Whole s → Runs m cs s t → t ≡ after_calls m cs s
runs_only m w done = refl
runs_only m {cs} {s} w (then {c = c} {cs = rest} {t = t} a b) =
    let e = step_only m w a in
    runs_only m (subst Whole (sym e) (whole_call m c s w)) b ∙ ap (after_calls m rest) e

runs_made : (m : Meaning) (cs : List Call) (s : Course) → Whole s → Runs m cs s (after_calls m cs s)
runs_made m [] s w = done
runs_made m (c ∷ cs) s w = then (step_made m c s w) (runs_made m cs (after_call m c s) (whole_call m c s w))

pub runs_by_rules : RunsByRules
runs_by_rules m cs t = (
  λ r. runs_only m whole_fresh r,
  λ e. subst (Runs m cs fresh) (sym e) (runs_made m cs fresh whole_fresh),
)
