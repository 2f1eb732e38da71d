-- A line that fits is never late. Assumes nothing.
use Rattle.std.proofs.Common.{◌≡◌, ℕ, zero, suc, ◌+◌, ◌-◌, ◌*◌, ◌<◌, ◌≤◌, Bool, true, false, cond, ltb, List, [], ◌∷◌, get_or, set, replicate, is_some, is_ok, Some, None, Ok, Err, Option, Result, sym, refl, ap, ◌∙◌, subst, inl, inr, add-one, arith}
use Rattle.std.proofs.lemmas.Bool.{cases_lt, cases_eq, lt-ltb, le-ltb, cond-true, cond-false}
use Rattle.std.proofs.lemmas.List.{get_or-set_same}
use Rattle.line.specs.declared.refusal.Refusal.{Refusal}
use Rattle.line.specs.Meaning.{Meaning, nowhere, task_at, modes_in, cost_in, deadline_in}
use Rattle.line.specs.Lawful.{Lawful}
use Rattle.line.proofs.Facts.{modes_at}
use Rattle.run.specs.declared.Job.{Job}
use Rattle.run.specs.declared.Late.{Late}
use Rattle.run.specs.declared.Advance.{Advance}
use Rattle.run.specs.Course.{Course, fresh, job_at, left_of, worst_at}
use Rattle.run.specs.Ticks.{idle_above, served, ticked, after_ticks}
use Rattle.run.specs.Calls.{release_answer, released, after_release, may_advance, told_from, unless, after_advance, Call, release, advance, after_call, after_calls}
use Rattle.run.specs.Rules.{Whole, Finishes, Misses, LateNow, Tick, MayRelease}
use Rattle.run.proofs.Slots.{idle_none, idle_some, given_other, given_cases, left_served}
use Rattle.run.proofs.Ruling.{decide_end, tick_ruled}
use Rattle.run.proofs.Running.{may_release, whole_tick, whole_release, whole_fresh, none_there}
use Rattle.response.specs.declared.Verdict.TheVariants.{Fits}
use Rattle.response.specs.Bounds.{Bound}
use Rattle.response.specs.Judgements.{Mode}
use Rattle.response.specs.Verdicts.{verdict_of}
use Rattle.response.specs.Safety.{NeverLate}
use Rattle.response.proofs.Bounding.{bound_found, found_bound}
use Rattle.response.proofs.Judging.{fits_bounds}
use Rattle.response.proofs.Showing.{bounded_mode}
use Rattle.response.proofs.Asking.{first, next, gap_in_lem, laws_at}
use Rattle.response.proofs.Accounts.{Share, Own, Level, Sound, level_time, anew}
use Rattle.response.proofs.Serving.{sound_later, sound_after, level_tick}

-- Every mode has a bound.
abbrev AllBounds : Meaning → Type 0
AllBounds m = (p i : ℕ) → p < m.count → i < modes_in (task_at m p) → (r : ℕ) × Bound m p i r

-- What a run of a line that fits keeps.
record Good (m : Meaning) (s : Course) : Type 0 where
  whole : Whole s
  on_time : s.late ≡ None
  in_time : (p i w : ℕ) → Bound m p i w → worst_at s.worst p i ≤ w
  sound : (p : ℕ) → p < m.count → Sound m p s.clock (job_at s.jobs p)
  outside : (p : ℕ) → m.count ≤ p → left_of (job_at s.jobs p) ≡ 0
  levels : (p : ℕ) → p < m.count → Level m s.clock s.jobs p

bound_mode : (m : Meaning) (p i w : ℕ) → Bound m p i w → Mode m p i
bound_mode m p i w b = bounded_mode m p i (w, found_bound m p i w b)

-- A place with a mode is a place of the line.
pub mode_place : (m : Meaning) (p i : ℕ) → i < modes_in (task_at m p) → p < m.count
mode_place m p i h = elim (cases_lt p m.count) [ inl l ↦ l | inr l ↦ let e = ap modes_in (cond-false (ltb p m.count) (m.at p) nowhere (le-ltb _ _ l)) in absurd (omega arith) ]

-- A place with work left is a place of the line.
busy_place : (m : Meaning) (os : List (Option Job)) (p : ℕ) (j : Job) → ((q : ℕ) → m.count ≤ q → left_of (job_at os q) ≡ 0) → job_at os p ≡ Some j → 0 < j.left → p < m.count
busy_place m os p j out e l = elim (cases_lt p m.count) [ inl h ↦ h | inr h ↦ let z = out p h in let y = ap left_of e in absurd (omega arith) ]

module _ (m : Meaning) (laws : Lawful m) (fits : AllBounds m) where
  -- No place has work left at its deadline.
  none_misses : (now : ℕ) (os : List (Option Job)) → ((p : ℕ) → p < m.count → Sound m p now (job_at os p)) → ((p : ℕ) → m.count ≤ p → left_of (job_at os p) ≡ 0) → ((p : ℕ) → p < m.count → Level m now os p) → (p : ℕ) (j : Job) → Misses m now os p j → ⊥
  none_misses now os snd out lv p j x =
      let lp = busy_place m os p j out x.here x.some in
      let valid : Sound m p now (Some j) = subst (Sound m p now) x.here (snd p lp) in
      let r = fits p j.mode lp valid.0 in
      let t = level_time m laws now os p j r.0 (lv p lp) x.here x.some r.1 in
      let w = r.1.within in
      let d = x.due in
      omega arith

  none_late : (now : ℕ) (os : List (Option Job)) → ((p : ℕ) (j : Job) → Misses m now os p j → ⊥) → (l : Option (Late ℕ)) → LateNow m now os l → l ≡ None
  none_late now os d None h = refl
  none_late now os d (Some l) h = absurd (d l.task h.job h.misses)

  module _ (s : Course) (g : Good m s) where
    served_place : idle_above s.jobs < m.count → 0 < left_of (job_at s.jobs (idle_above s.jobs))
    served_place h = let few = laws.few in let l = g.whole.places in idle_some s.jobs (omega arith)

    -- A job that finishes took no longer than its bound.
    took : (p : ℕ) (j : Job) (w : ℕ) → Finishes s p j → Bound m p j.mode w → s.clock + 1 - j.release ≤ w
    took p j w f b =
        let v = f.served in
        let lp = busy_place m s.jobs p j g.outside v.here v.some in
        let t = level_time m laws s.clock s.jobs p j w (g.levels p lp) v.here v.some b in
        omega arith

    abbrev jobs' : List (Option Job)
    jobs' = set s.jobs (idle_above s.jobs) (served 1 (job_at s.jobs (idle_above s.jobs)))

    sound' : (p : ℕ) → p < m.count → Sound m p (s.clock + 1) (job_at jobs' p)
    sound' p l = rw add-one (sound_later m p s.clock (job_at jobs' p) (sound_after m laws s.clock s.jobs g.sound (idle_above s.jobs) (idle_none s.jobs) served_place p l))

    levels' : (p : ℕ) → p < m.count → Level m (s.clock + 1) jobs' p
    levels' p l = rw add-one (level_tick m laws s.clock s.jobs g.sound (idle_above s.jobs) (idle_none s.jobs) served_place p l (g.levels p l))

    outside' : (p : ℕ) → m.count ≤ p → left_of (job_at jobs' p) ≡ 0
    outside' p l = given_cases (λ _ o. left_of o ≡ 0) s.jobs (idle_above s.jobs) 1 p (λ _. let a = left_served 1 (job_at s.jobs p) in let z = g.outside p l in omega arith) (λ _. g.outside p l)

    in_time' : (t : Course) → Tick m s t → (p i w : ℕ) → Bound m p i w → worst_at t.worst p i ≤ w
    in_time' t a p i w b =
        let md = bound_mode m p i w b in
        let few : i < 16 = omega (arith, modes_at m laws p, md.mode) in
        elim (decide_end s p i) [
          | inl x ↦
              let b' : Bound m p x.0.mode w = subst (λ k. Bound m p k w) (sym x.2) b in
              let old = g.in_time p x.0.mode w b' in
              let new = took p x.0 w x.1 b' in
              let e = a.ends p x.0 x.1 in
              let c = a.clock in
              let new' : t.clock - x.0.release ≤ w = omega arith in
              subst (λ k. worst_at t.worst p k ≤ w) x.2 (omega arith)
          | inr d ↦ let e = a.keeps p i few d in let old = g.in_time p i w b in omega arith
        ]

    good_tick : Good m (ticked m s)
    good_tick =
        let a : Tick m s (ticked m s) = tick_ruled m s g.whole in
        record {
          whole = whole_tick m s g.whole;
          on_time = none_late (s.clock + 1) jobs' (none_misses (s.clock + 1) jobs' sound' outside' levels') (ticked m s).late a.late;
          in_time = in_time' (ticked m s) a;
          sound = sound';
          outside = outside';
          levels = levels';
        }

  good_by : (n : ℕ) (s : Course) (b : Bool) → Good m s → (Good m (ticked m s) → Good m (after_ticks m n (ticked m s))) → Good m (cond b s (after_ticks m n (ticked m s)))
  good_by n s true g h = g
  good_by n s false g h = h (good_tick s g)

  good_ticks : (n : ℕ) (s : Course) → Good m s → Good m (after_ticks m n s)
  unfolding after_ticks
  good_ticks zero s g = g
  good_ticks (suc n) s g = good_by n s (is_some s.late) g (λ k. good_ticks n (ticked m s) k)

-- A release.
abbrev new : ℕ → ℕ → ℕ → Option Job
new i now c = Some (record { mode = i; release = now; left = c })

module _ (m : Meaning) (s : Course) (p i c : ℕ) (r : MayRelease m s p i c) where
  share_new : (t u : ℕ) (o : Option Job) → job_at s.jobs p ≡ o → left_of o ≡ 0 → t ≤ s.clock → Share m p t u o → Share m p t u (new i s.clock c)
  share_new t u o e z lt (inl n) = let x = n.0 in let k = r.cost in inr (0, cost_in (task_at m p) i, first r.there, omega arith, omega arith)
  share_new t u None e z lt (inr b) = absurd b
  share_new t u (Some j) e z lt (inr b) =
      let a = r.apart j e in
      let x = b.3 in
      let y = b.4 in
      let k = r.cost in
      let l = a.2 in
      inr (b.0 + a.0, b.1 + cost_in (task_at m p) i, next b.2 a.1, omega arith, omega arith)

  own_new : (t f : ℕ) (o : Option Job) → left_of o ≡ 0 → t ≤ s.clock → Own m p t f o → Own m p t f (new i s.clock c)
  own_new t f o z lt (inl n) = let x = n.0 in let k = r.cost in let one = r.some in inr (omega arith, lt, omega arith)
  own_new t f None z lt (inr a) = absurd a
  own_new t f (Some j) z lt (inr a) = let x = a.0 in absurd (omega arith)

  module _ (laws : Lawful m) (fits : AllBounds m) (g : Good m s) where
    place : p < m.count
    place = mode_place m p i r.there

    -- A place at which a job may be released has no work left.
    nothing_left : (o : Option Job) → job_at s.jobs p ≡ o → left_of o ≡ 0
    nothing_left None e = refl
    nothing_left (Some j) e = elim (cases_eq j.left 0) [
      | inl z ↦ z
      | inr d ↦
          let a = r.apart j e in
          let k = gap_in_lem (task_at m p) j.mode i a.0 a.1 in
          let b = fits p j.mode place k.from in
          let t = level_time m laws s.clock s.jobs p j b.0 (g.levels p place) e (omega arith) b.1 in
          let w = b.1.within in
          let same : deadline_in (task_at m p) j.mode ≡ (task_at m p).graph.deadline j.mode = cond-true (ltb j.mode (modes_in (task_at m p))) ((task_at m p).graph.deadline j.mode) 0 (lt-ltb _ _ k.from) in
          let least = (laws_at m laws p place).limits.gap_least j.mode i a.0 k.from k.to k.gap in
          let l = a.2 in
          absurd (omega arith)
    ]

    -- What holds of the new job at p, and of the old ones elsewhere.
    new_cases : (P : ℕ → Option Job → Type 0) (q : ℕ) → P p (new i s.clock c) → ((q ≡ p → ⊥) → P q (job_at s.jobs q)) → P q (job_at (released s p i c).jobs q)
    new_cases P q same old = elim (cases_eq q p) [
      | inl e ↦
          let l = g.whole.places in
          let h = r.place in
          subst (λ k. P k (job_at (released s p i c).jobs k)) (sym e) (subst (P p) (sym (get_or-set_same s.jobs p (new i s.clock c) None (omega arith))) same)
      | inr d ↦ subst (P q) (sym (given_other s.jobs p q (new i s.clock c) d)) (old d)
    ]

    level_new : (q : ℕ) → q < m.count → Level m s.clock (released s p i c).jobs q
    level_new q l = record {
      from = lv.from;
      used = lv.used;
      free = lv.free;
      count = lv.count;
      shares = λ k lk. elim (cases_eq k p) [ inl e ↦ share_here k lk e | inr d ↦ new_other k d (λ o. Share m k lv.from (lv.used k) o) (lv.shares k lk) ];
      own = elim (cases_eq q p) [ inl e ↦ own_here e | inr d ↦ new_other q d (λ o. Own m q lv.from lv.free o) lv.own ];
      full = lv.full;
    }
      where
        lv : Level m s.clock s.jobs q
        lv = g.levels q l

        before : lv.from ≤ s.clock
        before = let c = lv.count in omega arith

        new_other : (k : ℕ) → (k ≡ p → ⊥) → (P : Option Job → Type 0) → P (job_at s.jobs k) → P (job_at (released s p i c).jobs k)
        new_other k d P x = subst P (sym (given_other s.jobs p k (new i s.clock c) d)) x

        new_here : (P : Option Job → Type 0) → P (new i s.clock c) → P (job_at (released s p i c).jobs p)
        new_here P x = let len = g.whole.places in let h = r.place in subst P (sym (get_or-set_same s.jobs p (new i s.clock c) None (omega arith))) x

        share_here : (k : ℕ) → k < q → k ≡ p → Share m k lv.from (lv.used k) (job_at (released s p i c).jobs k)
        share_here k lk e =
            let old : Share m p lv.from (lv.used k) (job_at s.jobs p) = subst (λ x. Share m x lv.from (lv.used k) (job_at s.jobs x)) e (lv.shares k lk) in
            subst (λ x. Share m x lv.from (lv.used k) (job_at (released s p i c).jobs x)) (sym e)
            (new_here (Share m p lv.from (lv.used k)) (share_new lv.from (lv.used k) (job_at s.jobs p) refl (nothing_left (job_at s.jobs p) refl) before old))

        own_here : q ≡ p → Own m q lv.from lv.free (job_at (released s p i c).jobs q)
        own_here e =
            let old : Own m p lv.from lv.free (job_at s.jobs p) = subst (λ x. Own m x lv.from lv.free (job_at s.jobs x)) e lv.own in
            subst (λ x. Own m x lv.from lv.free (job_at (released s p i c).jobs x)) (sym e)
            (new_here (Own m p lv.from lv.free) (own_new lv.from lv.free (job_at s.jobs p) (nothing_left (job_at s.jobs p) refl) before old))

    good_released : Whole (released s p i c) → Good m (released s p i c)
    good_released w = record {
      whole = w;
      on_time = g.on_time;
      in_time = g.in_time;
      sound = λ q l. new_cases (λ k o. Sound m k s.clock o) q (r.there, omega arith) (λ d. g.sound q l);
      outside = λ q l. given_old q l;
      levels = level_new;
    }
      where
        given_old : (q : ℕ) → m.count ≤ q → left_of (job_at (released s p i c).jobs q) ≡ 0
        given_old q l = let h = place in ap left_of (given_other s.jobs p q (new i s.clock c) (omega arith)) ∙ g.outside q l

no_times : (n k : ℕ) → ◌≡◌ {A = ℕ} (get_or (replicate n 0) k 0) 0
no_times zero k = refl
no_times (suc n) zero = refl
no_times (suc n) (suc k) = no_times n k

module _ (m : Meaning) (laws : Lawful m) (fits : AllBounds m) where
  good_release : (p i c : ℕ) (s : Course) → Good m s → Good m (after_release m s p i c)
  good_release p i c s g = by (is_ok (release_answer m s p i c)) refl (whole_release m s p i c g.whole)
    where
      by : (b : Bool) → is_ok (release_answer m s p i c) ≡ b → Whole (cond b (released s p i c) s) → Good m (cond b (released s p i c) s)
      by true e w = good_released m s p i c (may_release m s p i c e) laws fits g w
      by false e w = g

  good_advance : (n : ℕ) (s : Course) → Good m s → Good m (after_advance m s n)
  good_advance n s g = by (is_ok (may_advance s n))
    where
      by : (b : Bool) → Good m (cond b (after_ticks m n s) s)
      by true = good_ticks m laws fits n s g
      by false = g

  good_call : (c : Call) (s : Course) → Good m s → Good m (after_call m c s)
  good_call (release p i c) s g = good_release p i c s g
  good_call (advance n) s g = good_advance n s g

  good_calls : (cs : List Call) (s : Course) → Good m s → Good m (after_calls m cs s)
  good_calls [] s g = g
  good_calls (c ∷ cs) s g = good_calls cs (after_call m c s) (good_call c s g)

  good_fresh : Good m fresh
  good_fresh = record {
    whole = whole_fresh;
    on_time = refl;
    in_time = λ p i w b. let z = no_times 256 (p * 16 + i) in omega arith;
    sound = λ p l. subst (Sound m p 0) (sym (none_there 16 p)) tt;
    outside = λ p l. ap left_of (none_there 16 p);
    levels = λ p l. anew m laws 0 fresh.jobs p (λ q k. ap left_of (none_there 16 q));
  }

  -- No advance reports a late job.
  told_none : (s : Course) (n : ℕ) (a : Advance ℕ) → Good m s → (r : Result (Unit {0}) Refusal) → unless r (told_from s (after_ticks m n s)) ≡ Ok a → a.late ≡ None
  told_none s n a g (Ok x) e = let y : told_from s (after_ticks m n s) ≡ a = cc in sym (ap (λ k. k.late) y) ∙ (good_ticks m laws fits n s g).on_time
  told_none s n a g (Err x) e = let z : ◌≡◌ {A = ℕ} 0 1 = cc in absurd (omega arith)

  safe_calls : NeverLate m
  safe_calls cs =
      let g = good_calls cs fresh good_fresh in
      record { on_time = g.on_time; in_time = g.in_time; reports = λ n a e. told_none (after_calls m cs fresh) n a g (may_advance (after_calls m cs fresh) n) e }

-- The guarantee: over a line that fits no run is ever late, and no job takes longer than the bound of its mode.
pub never_late : (m : Meaning) → Lawful m → verdict_of m ≡ Fits → NeverLate m
never_late m laws e = safe_calls m laws (λ p i lp li. let b = fits_bounds m e p i (record { place = lp; mode = li }) in (b.0, bound_found m p i b.0 b.1))
