-- A table that fits goes on fitting while it is only eased, and no bound grows. Assumes nothing.
use Rattle.std.proofs.Common.{◌≡◌, ℕ, zero, suc, ◌+◌, ◌*◌, ◌<◌, ◌≤◌, Bool, true, false, cond, not, eqb, ltb, ◌&&◌, List, [], ◌∷◌, length, get_or, is_some, is_ok, IfOk, Some, None, Ok, Err, Option, Result, sym, refl, ap, ◌∙◌, subst, arith}
use Rattle.std.specs.Option.{option_map}
use Rattle.std.proofs.lemmas.Bool.{eqb-true, eq-eqb, lt-ltb, cond-true}
use Rattle.line.specs.declared.refusal.Refusal.{Refusal}
use Rattle.line.specs.declared.refusal.Refusal.TheVariants.{NotThere}
use Rattle.line.specs.declared.change.Change.{Change}
use Rattle.line.specs.declared.change.Change.TheVariants.{Lower, Widen, Cut}
use Rattle.line.specs.Answers.{Answer}
use Rattle.line.specs.Lighter.{Eased}
use Rattle.line.specs.Meaning.{Meaning, Task, task_at, modes_in}
use Rattle.table.specs.Numbers.{task_numbers}
use Rattle.table.specs.Easing.{EasedTable}
use Rattle.table.proofs.Easing.{eased_same}
use Rattle.table.specs.Items.{Item, line_of, place_of, number_at, apart}
use Rattle.response.specs.declared.Verdict.TheVariants.{Fits}
use Rattle.response.specs.Verdicts.{verdict_of, bound_cells}
use Rattle.response.proofs.Bounding.{found_bound}
use Rattle.response.proofs.Easing.{at_eases, bounds_ease, fits_still}
use Rattle.response.proofs.Keeping.{mode_place}
use Rattle.editor.specs.Desks as desks
use Rattle.editor.specs.Desks.{Desk, replanned, undrafted}
use Rattle.modes.specs.Plans.{after_add, after_link}
use Rattle.faults.specs.declared.LoadFault.{LoadFault}
use Rattle.bench.specs.declared.bench.Bench.{Bench}
use Rattle.bench.specs.declared.ticket.Ticket.{Ticket}
use Rattle.bench.specs.declared.ticket.Drafting.{Drafting}
use Rattle.bench.specs.declared.ticket.Running.{Running}
use Rattle.bench.specs.State.{State, state, with_desk, put_answer, take_answer, after_take, ChangeDone, OpenDone, mode_answer, link_answer, CloseWith, on_numbers, judgement, after_judge, after_check, mode_in_range, bound_at_place, bound_answer}
use Rattle.bench.specs.Runs.{with_run, BeginDone, release_answer, advance_answer}
use Rattle.bench.proofs.Easing.{take_eases, change_eases}
use Rattle.store.specs.Loads.{LoadDone}
use Rattle.history.specs.Histories.{Call, put, open_draft, add_mode, add_link, close, abandon, take, lower, widen, cut, load, judge, begin, release, advance, stop, Does, Made, Leads, none, then, puts_in, OnlyEases}
use Rattle.history.specs.Guarantees.{NoWorse, StaysFit}
use Rattle.history.proofs.Standing.{line_on, same_tasks}
use Rattle.history.proofs.Timely.{lawful_on, fits_by_place, shown_at, cell_bound}

-- ---- Tables that ask for no more, one after another
eased_on : (t u v : Task) → Eased t u → Eased u v → Eased t v
eased_on t u v e f = record {
  graph = record {
    lighter = record {
      same = e.graph.lighter.same ∙ f.graph.lighter.same;
      cheaper = λ m. let x = e.graph.lighter.cheaper m in let y = f.graph.lighter.cheaper m in omega arith;
      rarer = λ a b h g.
          let x = e.graph.lighter.rarer a b h g in
          let y = f.graph.lighter.rarer a b x.0 x.1 in
          let p = x.2 in
          let q = y.2 in
          (y.0, y.1, omega arith);
    };
    due = λ m. e.graph.due m ∙ f.graph.due m;
  };
  most = λ w h. let x = e.most w h in let y = f.most w h in omega arith;
}

table_self : (is : List Item) → EasedTable is is
table_self is = record {
  from = λ k. k;
  numbers = λ k h. refl;
  line = record { there = λ k h. h; order = λ j k l h. l; task = λ k h. eased_same ((line_of is).at k) };
}

table_on : (a b c : List Item) → EasedTable a b → EasedTable b c → EasedTable a c
table_on a b c e f = record {
  from = λ k. f.from (e.from k);
  numbers = λ k h. e.numbers k h ∙ f.numbers (e.from k) (e.line.there k h);
  line = record {
    there = λ k h. f.line.there (e.from k) (e.line.there k h);
    order = λ j k l h. f.line.order (e.from j) (e.from k) (e.line.order j k l h) (e.line.there k h);
    task = λ k h. eased_on ((line_of a).at k) ((line_of b).at (e.from k)) ((line_of c).at (f.from (e.from k))) (e.line.task k h) (f.line.task (e.from k) (e.line.there k h));
  };
}

-- ---- Calls
-- A call that leaves the tasks as they are.
abbrev Eased_to : State → State → Type 0
Eased_to t s = EasedTable t.desk.tasks s.desk.tasks

kept : (s t : State) → t.desk.tasks ≡ s.desk.tasks → Eased_to t s
kept s t e = subst (λ (is : List Item). EasedTable is s.desk.tasks) (sym e) (table_self s.desk.tasks)

kept_by : (s t u : State) → t ≡ u → u.desk.tasks ≡ s.desk.tasks → Eased_to t s
kept_by s t u e same = kept s t (ap (λ (x : State). x.desk.tasks) e ∙ same)

either : (b : Bool) (u s : State) → u.desk.tasks ≡ s.desk.tasks → (cond b u s).desk.tasks ≡ s.desk.tasks
either true u s e = e
either false u s e = refl

refused : (s t u : State) (b ok : Bool) → ok ≡ b → ok ≡ false → t ≡ cond b u s → Eased_to t s
refused s t u b ok same off e = kept_by s t (cond b u s) e (by b (sym same ∙ off))
  where
    by : (b : Bool) → b ≡ false → (cond b u s).desk.tasks ≡ s.desk.tasks
    by false e = refl
    by true e = absurd (cc (e))

opened_kept : (s t : State) (number place : ℕ) (r : Result (Ticket Drafting) Refusal) → OpenDone s number place r t → Eased_to t s
opened_kept s t number place (Ok k) d = kept_by s t _ d.2 refl
opened_kept s t number place (Err e) d = kept_by s t s d.1 refl

closed_kept : (s t : State) (ticket : ℕ) (sheet sheet' : List ℕ) (r : Answer) (ok : Bool) → ok ≡ is_ok r → ok ≡ false → CloseWith s ticket sheet r t sheet' → Eased_to t s
closed_kept s t ticket sheet sheet' (Ok u) ok same off d = absurd (cc (same, off))
closed_kept s t ticket sheet sheet' (Err e) ok same off d = kept_by s t s d.1 refl

loaded_kept : (s t : State) (text sheet sheet' : List ℕ) (r : Result (Unit {0}) LoadFault) (ok : Bool) → ok ≡ is_ok r → ok ≡ false → LoadDone s text sheet r t sheet' → Eased_to t s
loaded_kept s t text sheet sheet' (Ok u) ok same off d = absurd (cc (same, off))
loaded_kept s t text sheet sheet' (Err e) ok same off d = kept_by s t s d.1 refl

begun_kept : (s t : State) (r : Result (Ticket Running) Refusal) → BeginDone s r t → Eased_to t s
begun_kept s t (Ok k) d = kept_by s t _ d.2 refl
begun_kept s t (Err e) d = kept_by s t s d.1 refl

taken_eased : (s t : State) (number : ℕ) → t ≡ after_take s number → Eased_to t s
taken_eased s t number after = by (take_answer s number) refl
  where
    by : (r : Answer) → r ≡ take_answer s number → Eased_to t s
    by (Ok u) e = (take_eases s t number (Ok u) e after).tasks
    by (Err x) e = refused s t _ (is_ok (take_answer s number)) false (ap is_ok e) refl after

changed_eased : (a b : Bench) (number : ℕ) (c : Change) (sheet sheet' : List ℕ) (r : Answer) → ChangeDone (state a) number c sheet r (state b) sheet' → Eased_to (state b) (state a)
changed_eased a b number c sheet sheet' (Ok u) d = (change_eases (state a) (state b) number c sheet sheet' (Ok u) d (lawful_on a) (lawful_on b)).tasks
changed_eased a b number c sheet sheet' (Err e) d = kept_by (state a) (state b) (state a) d.1 refl

call_eased : (a b : Bench) (c : Call) (ok : Bool) → Does (state a) c ok (state b) → (puts_in c && ok) ≡ false → Eased_to (state b) (state a)
call_eased a b (put number place cost period deadline) ok d off = refused (state a) (state b) _ (is_ok (put_answer (state a) number place cost period deadline)) ok d.0 off d.1
call_eased a b (open_draft number place) ok d off = opened_kept (state a) (state b) number place d.0 d.2
call_eased a b (add_mode ticket cost deadline) ok d off =
    let s = state a in
    kept_by s (state b) _ d.1
    (either (is_ok (mode_answer s ticket cost deadline)) (with_desk s (desks.after_mode s.desk cost deadline)) s (same_tasks (is_ok (desks.mode_answer s.desk cost deadline)) (λ p. after_add p cost deadline) s.desk))
call_eased a b (add_link ticket from to gap) ok d off =
    let s = state a in
    kept_by s (state b) _ d.1
    (either (is_ok (link_answer s ticket from to gap)) (with_desk s (desks.after_linking s.desk from to gap)) s (same_tasks (is_ok (desks.linking_answer s.desk from to gap)) (λ p. after_link p from to gap) s.desk))
call_eased a b (close ticket sheet) ok d off = closed_kept (state a) (state b) ticket sheet d.1 d.0 ok d.2 off d.3
call_eased a b (abandon ticket) ok d off = let s = state a in kept_by s (state b) _ d.1 (either (eqb ticket s.id) (with_desk s (undrafted s.desk)) s refl)
call_eased a b (take number) ok d off = taken_eased (state a) (state b) number d.1
call_eased a b (lower number mode cost sheet) ok d off = changed_eased a b number (Lower mode cost) sheet d.1 d.0 d.3
call_eased a b (widen number from to gap sheet) ok d off = changed_eased a b number (Widen from to gap) sheet d.1 d.0 d.3
call_eased a b (cut number from to sheet) ok d off = changed_eased a b number (Cut from to) sheet d.1 d.0 d.3
call_eased a b (load text sheet) ok d off = loaded_kept (state a) (state b) text sheet d.1 d.0 ok d.2 off d.3
call_eased a b judge ok d off = kept_by (state a) (state b) _ d.1 refl
call_eased a b begin ok d off = begun_kept (state a) (state b) d.0 d.2
call_eased a b (release ticket number mode cost) ok d off =
    let s = state a in kept_by s (state b) _ d.1 (either (is_ok (release_answer s ticket number mode cost)) (with_run s _) s refl)
call_eased a b (advance ticket ticks) ok d off =
    let s = state a in kept_by s (state b) _ d.1 (either (is_ok (advance_answer s ticket ticks)) (with_run s _) s refl)
call_eased a b (stop ticket) ok d off = let s = state a in kept_by s (state b) _ d.1 (either (eqb ticket s.id) (with_run s None) s refl)

calls_eased : (a z : Bench) (calls : List Made) → Leads a calls z → OnlyEases calls → Eased_to (state z) (state a)
calls_eased a z [] none only = table_self (state a).desk.tasks
calls_eased a z (c ∷ cs) (then {b = b} {c = k} {ok = ok} d rest) only =
    table_on (state z).desk.tasks (state b).desk.tasks (state a).desk.tasks (calls_eased b z cs rest only.1) (call_eased a b k ok d only.0)

-- ---- Numbers and places
number_found : (n : ℕ) (is : List Item) (k : ℕ) → place_of n is ≡ Some k → number_at is k ≡ n
number_found n [] k e = absurd (cc (e))
number_found n (i ∷ is) k e = by (eqb i.number n) refl (place_of n is) (λ j at. number_found n is j at) e
  where
    by : (b : Bool) → eqb i.number n ≡ b → (o : Option ℕ) → ((j : ℕ) → o ≡ Some j → number_at is j ≡ n) → cond b (Some 0) (option_map suc o) ≡ Some k → number_at (i ∷ is) k ≡ n
    by true t o later h = let z : 0 ≡ k = cc (h) in ap (number_at (i ∷ is)) (sym z) ∙ eqb-true i.number n t
    by false t None later h = absurd (cc (h))
    by false t (Some j) later h = let z : suc j ≡ k = cc (h) in ap (number_at (i ∷ is)) (sym z) ∙ later j refl

-- No two tasks of a table have one number, so each is the first of its own.
apart_rest : (b c d : Bool) → (b && (c && d)) ≡ true → (c ≡ true) × (d ≡ true)
apart_rest true true true e = (refl, refl)
apart_rest true true false e = absurd (cc (e))
apart_rest true false d e = absurd (cc (e))
apart_rest false c d e = absurd (cc (e))

place_after : (i : Item) (is : List Item) (n k : ℕ) → not (is_some (place_of i.number is)) ≡ true → place_of n is ≡ Some k → (b : Bool) → eqb i.number n ≡ b → cond b (Some 0) (option_map suc (place_of n is)) ≡ Some (suc k)
place_after i is n k free at false t = ap (option_map suc) at
place_after i is n k free at true t =
    let same = ap (λ m. place_of m is) (eqb-true i.number n t) ∙ at in
    absurd (cc (free, same))

place_found : (is : List Item) → apart is ≡ true → (k : ℕ) → k < length is → place_of (number_at is k) is ≡ Some k
place_found [] a k h = absurd (omega (arith, h))
place_found (i ∷ is) a zero h = cond-true (eqb i.number i.number) (Some 0) (option_map suc (place_of i.number is)) (eq-eqb i.number i.number refl)
place_found (i ∷ is) a (suc k) h =
    let both = apart_rest (is_ok (task_numbers i.number 0)) (not (is_some (place_of i.number is))) (apart is) a in
    place_after i is (number_at is k) k both.0 (place_found is both.1 k (omega (arith, h))) (eqb i.number (number_at is k)) refl

-- ---- Judging again
in_range : (s : State) (number mode w : ℕ) → bound_answer s number mode ≡ Ok w → mode_in_range number mode ≡ Ok tt
in_range s number mode w e = by (mode_in_range number mode) e
  where
    by : (a : Answer) → after_check a (bound_at_place s (place_of number s.desk.tasks) mode) ≡ Ok w → a ≡ Ok tt
    by (Ok u) h = refl
    by (Err x) h = absurd (cc (h))

shown_there : (s : State) (number mode place : ℕ) → mode_in_range number mode ≡ Ok tt → place_of number s.desk.tasks ≡ Some place → mode < modes_in (task_at (line_on s) place) → bound_answer s number mode ≡ Ok (get_or s.bounds (place * 16 + mode) 0)
shown_there s number mode place range at there =
    ap (λ (a : Answer). after_check a (bound_at_place s (place_of number s.desk.tasks) mode)) range
    ∙ ap (λ o. bound_at_place s o mode) at
    ∙ cond-true (ltb mode (modes_in (task_at (line_on s) place))) (Ok (get_or s.bounds (place * 16 + mode) 0)) (Err NotThere) (lt-ltb _ _ there)

module _ (a z : Bench) (e : Eased_to (state z) (state a)) (fits : judgement (state a) ≡ Fits) where
  abbrev was : Meaning
  was = line_on (state a)

  abbrev is : Meaning
  is = line_on (state z)

  fits_was : verdict_of was ≡ Fits
  fits_was = fits_by_place (state a).desk.tasks (verdict_of was) fits

  fits_is : verdict_of is ≡ Fits
  fits_is = fits_still e.from is was e.line fits_was

  bounds : (number mode now : ℕ) → bound_answer (after_judge (state z)) number mode ≡ Ok now → (old : ℕ) × (bound_answer (after_judge (state a)) number mode ≡ Ok old) × (now ≤ old)
  bounds number mode now h =
      let s = shown_at (after_judge (state z)) number mode now h in
      let k = s.found.place in
      let here = mode_place is k mode s.found.there in
      let eased = at_eases e.from is was e.line k here in
      let there : mode < modes_in (task_at was (e.from k)) = omega (arith, s.found.there, eased.graph.lighter.same) in
      let b_is = cell_bound is (lawful_on z) fits_is k mode s.found.there in
      let b_was = cell_bound was (lawful_on a) fits_was (e.from k) mode there in
      let less = bounds_ease e.from is was e.line k mode _ here b_was in
      let same : less.0 ≡ get_or (bound_cells is) (k * 16 + mode) 0 = cc (found_bound is k mode less.0 less.1, found_bound is k mode _ b_is) in
      let number_is : number_at (state a).desk.tasks (e.from k) ≡ number = sym (e.numbers k here) ∙ number_found number (state z).desk.tasks k s.found.at in
      let at : place_of number (state a).desk.tasks ≡ Some (e.from k) =
      ap (λ n. place_of n (state a).desk.tasks) (sym number_is) ∙ place_found (state a).desk.tasks a.editor.table.distinct (e.from k) (e.line.there k here) in (
        get_or (bound_cells was) (e.from k * 16 + mode) 0,
        shown_there (after_judge (state a)) number mode (e.from k) (in_range (after_judge (state z)) number mode now h) at there,
        omega (arith, less.2, same, s.cell),
      )

  no_worse : NoWorse (state z) (state a)
  no_worse = record { fits = ap (on_numbers (state z).desk.tasks) fits_is; bounds = bounds }

stays_fit_new : (new : Bench) → StaysFit new
stays_fit_new new before after a z led fits only later = no_worse a z (calls_eased a z after later only) fits

pub made_to_last : (r : Result Bench Refusal) → IfOk r StaysFit
made_to_last (Ok b) = stays_fit_new b
made_to_last (Err x) = tt
