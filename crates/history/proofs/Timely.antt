-- While the verdict reads fits, all is on time. Assumes nothing.
use Rattle.std.proofs.Common.{◌≡◌, ℕ, ◌+◌, ◌*◌, ◌<◌, ◌≤◌, Bool, true, false, cond, eqb, leb, ltb, ◌||◌, List, [], get_or, MatchResult, IfOk, Some, None, Ok, Err, Option, Result, sym, refl, ap, ◌∙◌, subst, arith, append-nil}
use Rattle.std.specs.Option.{option_map}
use Rattle.std.proofs.lemmas.Bool.{ltb-true, leb-false}
use Rattle.line.specs.declared.refusal.Refusal.{Refusal}
use Rattle.line.specs.declared.refusal.Refusal.TheVariants.{OutOfRange, NotThere, NoMemory}
use Rattle.line.specs.Answers.{Answer}
use Rattle.line.specs.Lawful.{Lawful}
use Rattle.line.specs.Meaning.{Meaning, task_at, modes_in}
use Rattle.table.specs.Items.{Item, line_of, place_of, number_at}
use Rattle.table.specs.Laws.{table_lawful}
use Rattle.response.specs.declared.Verdict.{Verdict}
use Rattle.response.specs.declared.Verdict.TheVariants.{Fits, Over}
use Rattle.response.specs.Bounds.{Bound}
use Rattle.response.specs.Safety.{Safe}
use Rattle.response.specs.Verdicts.{verdict_of, bound_cells}
use Rattle.response.proofs.Keeping.{never_late, mode_place}
use Rattle.response.proofs.Showing.{judged}
use Rattle.run.specs.declared.Advance.{Advance}
use Rattle.run.specs.Course.{Course, worst_at}
use Rattle.run.specs.Calls as runs
use Rattle.bench.specs.declared.bench.Bench.{Bench}
use Rattle.bench.specs.State.{State, state, fresh, on_numbers, judgement, after_check, mode_in_range, bound_at_place, bound_answer}
use Rattle.bench.specs.Runs.{played, of_run, of_place, told, told_by, advance_answer, worst_answer}
use Rattle.history.specs.Guarantees.{OnTime, InTime}
use Rattle.history.proofs.Standing.{line_on, Stands, stands_led, stands_new}

-- The table of a bench keeps the limits and laws.
pub lawful_on : (b : Bench) → Lawful (line_on (state b))
lawful_on b = table_lawful b.editor.table

-- A verdict by number fits just where the one by place does.
pub fits_by_place : (is : List Item) (v : Verdict ℕ) → on_numbers is v ≡ Fits → v ≡ Fits
fits_by_place is Fits e = refl
fits_by_place is (Over p i) e = absurd (cc (e))

-- What is asked about a mode of a task that is there.
pub record Found (is : List Item) (o : Option ℕ) (mode : ℕ) : Type 0 where
  pub place : ℕ
  pub at : o ≡ Some place
  pub there : mode < modes_in (task_at (line_of is) place)

-- A bound that is shown is that of the cell of its place and mode.
pub record ShownAt (s : State) (number mode bound : ℕ) : Type 0 where
  pub found : Found s.desk.tasks (place_of number s.desk.tasks) mode
  pub cell : bound ≡ get_or s.bounds (found.place * 16 + mode) 0

pub shown_at : (s : State) (number mode bound : ℕ) → bound_answer s number mode ≡ Ok bound → ShownAt s number mode bound
shown_at s number mode bound e = by (mode_in_range number mode) (place_of number s.desk.tasks) refl e
  where
    here : (place : ℕ) → place_of number s.desk.tasks ≡ Some place → (b : Bool) → ltb mode (modes_in (task_at (line_on s) place)) ≡ b → ◌≡◌ {A = Result ℕ Refusal} (cond b (Ok (get_or s.bounds (place * 16 + mode) 0)) (Err NotThere)) (Ok bound) → ShownAt s number mode bound
    here place at true t h = record { found = record { place = place; at = at; there = ltb-true _ _ t }; cell = let z : get_or s.bounds (place * 16 + mode) 0 ≡ bound = cc (h) in sym z }
    here place at false t h = absurd (cc (h))

    by : (a : Answer) (o : Option ℕ) → place_of number s.desk.tasks ≡ o → after_check a (bound_at_place s o mode) ≡ Ok bound → ShownAt s number mode bound
    by (Err x) o at h = absurd (cc (h))
    by (Ok u) None at h = absurd (cc (h))
    by (Ok u) (Some place) at h = here place at (ltb mode (modes_in (task_at (line_on s) place))) refl h

-- What is asked of a run is asked of the open one.
of_open : {A : Type 0} → (s : State) (ticket : ℕ) (f : Course → Result A Refusal) (x : A) → of_run (played s ticket) f ≡ Ok x → (c : Course) × (s.run ≡ Some c) × (f c ≡ Ok x)
of_open {A} s ticket f x e = by (eqb ticket s.id) s.run refl e
  where
    by : (b : Bool) (o : Option Course) → s.run ≡ o → of_run (cond b o None) f ≡ Ok x → (c : Course) × (s.run ≡ Some c) × (f c ≡ Ok x)
    by false o at h = absurd (cc (h))
    by true None at h = absurd (cc (h))
    by true (Some c) at h = (c, at, h)

checked : {A : Type 0} → (a : Answer) (r : Result A Refusal) (x : A) → after_check a r ≡ Ok x → r ≡ Ok x
checked (Ok u) r x e = e
checked (Err y) r x e = absurd (cc (e))

told_none : (is : List Item) (r : Result (Advance ℕ) Refusal) (a : Advance ℕ) → told_by is r ≡ Ok a → ((d : Advance ℕ) → r ≡ Ok d → d.late ≡ None) → a.late ≡ None
told_none is (Ok d) a e f = let z : told is d ≡ a = cc (e) in sym (ap (λ k. k.late) z) ∙ ap (option_map (λ l. record { task = number_at is l.task; mode = l.mode })) (f d refl)
told_none is (Err x) a e f = absurd (cc (e))

-- A time that is told of a run is that of the cell of its place and mode.
record TimeAt (m : Meaning) (c : Course) (o : Option ℕ) (mode took : ℕ) : Type 0 where
  place : ℕ
  at : o ≡ Some place
  there : mode < modes_in (task_at m place)
  cell : took ≡ worst_at c.worst place mode

time_at : (m : Meaning) (c : Course) (o : Option ℕ) (mode took : ℕ) → of_place o (λ place. runs.worst_answer m c place mode) ≡ Ok took → TimeAt m c o mode took
time_at m c None mode took e = absurd (cc (e))
time_at m c (Some place) mode took e = by (leb 16 place || leb 16 mode) (leb (modes_in (task_at m place)) mode) refl e
  where
    by : (a b : Bool) → leb (modes_in (task_at m place)) mode ≡ b → ◌≡◌ {A = Result ℕ Refusal} (cond a (Err OutOfRange) (cond b (Err NotThere) (Ok (worst_at c.worst place mode)))) (Ok took) → TimeAt m c (Some place) mode took
    by true b t h = absurd (cc (h))
    by false true t h = absurd (cc (h))
    by false false t h = record { place = place; at = refl; there = leb-false _ _ t; cell = let z : worst_at c.worst place mode ≡ took = cc (h) in sym z }

-- Where the table fits, a cell that is shown holds its mode's bound.
pub cell_bound : (m : Meaning) → Lawful m → verdict_of m ≡ Fits → (place mode : ℕ) → mode < modes_in (task_at m place) → Bound m place mode (get_or (bound_cells m) (place * 16 + mode) 0)
cell_bound m laws fits place mode there =
    let shown = judged m laws [] Fits fits in
    let bd = shown.bounds place mode (record { place = mode_place m place mode there; mode = there }) tt in
    subst (λ (cs : List ℕ). Bound m place mode (get_or cs (place * 16 + mode) 0)) (append-nil (bound_cells m)) bd

module _ (b : Bench) (x : Stands (state b)) (reads : (state b).verdict ≡ Some Fits) where
  abbrev m : Meaning
  m = line_on (state b)

  j : (Fits ≡ judgement (state b)) × ((state b).bounds ≡ bound_cells m)
  j = x.judged Fits reads

  fits : verdict_of m ≡ Fits
  fits = fits_by_place (state b).desk.tasks (verdict_of m) (sym j.0)

  safe : (c : Course) → (state b).run ≡ Some c → Safe m c
  safe c e = let p = x.played c e in subst (Safe m) (sym p.1) (never_late m (lawful_on b) fits p.0)

  in_time : (ticket number mode took bound : ℕ) → worst_answer (state b) ticket number mode ≡ Ok took → bound_answer (state b) number mode ≡ Ok bound → took ≤ bound
  in_time ticket number mode took bound w e =
      let o = of_open (state b) ticket (λ c. of_place (place_of number (state b).desk.tasks) (λ place. runs.worst_answer m c place mode)) took (checked (mode_in_range number mode) _ took w) in
      let t = time_at m o.0 (place_of number (state b).desk.tasks) mode took o.2 in
      let s = shown_at (state b) number mode bound e in
      let same : t.place ≡ s.found.place = cc (t.at, s.found.at) in
      let bd = cell_bound m (lawful_on b) fits s.found.place mode s.found.there in
      let least = (safe o.0 o.1).in_time s.found.place mode _ bd in
      let cell : bound ≡ get_or (bound_cells m) (s.found.place * 16 + mode) 0 = s.cell ∙ ap (λ (cs : List ℕ). get_or cs (s.found.place * 16 + mode) 0) j.1 in
      let took_at : took ≡ worst_at o.0.worst s.found.place mode = t.cell ∙ ap (λ p. worst_at o.0.worst p mode) same in
      omega arith

  reports : (ticket ticks : ℕ) (a : Advance ℕ) → advance_answer (state b) ticket ticks ≡ Ok a → a.late ≡ None
  reports ticket ticks a e =
      let o = of_open (state b) ticket (λ c. told_by (state b).desk.tasks (runs.advance_answer m c ticks)) a (checked (runs.tick_numbers ticks) _ a e) in
      told_none (state b).desk.tasks (runs.advance_answer m o.0 ticks) a o.2 (λ d h. (safe o.0 o.1).reports ticks d h)

  timely : OnTime (state b)
  timely = record { on_time = λ c e. (safe c e).on_time; reports = reports; in_time = in_time }

in_time_new : (a : Bench) (id : ℕ) → state a ≡ fresh id → InTime a
in_time_new a id new calls b led reads = timely b (stands_led a b calls led (stands_new a id new)) reads

pub made_in_time : (id : ℕ) (r : Result Bench Refusal) → MatchResult r (λ b. state b ≡ fresh id) (λ e. e ≡ NoMemory) → IfOk r InTime
made_in_time id (Ok b) e = in_time_new b id e
made_in_time id (Err x) e = tt
