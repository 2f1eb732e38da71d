-- What stands on a bench after every list of calls: the verdict and the bounds are those of its table, the open run is
-- one over its table, and no run is open beside a draft. Assumes nothing.
use Rattle.std.proofs.Common.{◌≡◌, ℕ, Bool, true, false, cond, eqb, ltb, ◌⊎◌, List, [], ◌∷◌, ◌++◌, length, is_some, is_ok, Some, None, Ok, Err, Option, Result, sym, refl, ap, ◌∙◌, subst, inl, inr}
use Rattle.std.specs.Option.{option_map}
use Rattle.line.specs.declared.refusal.Refusal.{Refusal}
use Rattle.line.specs.declared.refusal.Refusal.TheVariants.{OutOfRange, RunOpen, DraftOpen}
use Rattle.line.specs.declared.change.Change.{Change}
use Rattle.line.specs.declared.change.Change.TheVariants.{Lower, Widen, Cut}
use Rattle.line.specs.Changes.{change_numbers}
use Rattle.line.specs.Answers.{Answer, and_then, sheet_answer}
use Rattle.line.specs.Meaning.{Meaning}
use Rattle.modes.specs.Plans.{Plan, after_add, after_link, whole_answer}
use Rattle.sporadic.specs.Tasks.{sporadic_answer}
use Rattle.table.specs.Numbers.{task_numbers}
use Rattle.table.specs.Items.{Item, line_of, place_of}
use Rattle.response.specs.declared.Verdict.{Verdict}
use Rattle.response.specs.Verdicts.{bound_cells}
use Rattle.run.specs.Course as courses
use Rattle.run.specs.Course.{Course}
use Rattle.run.specs.Calls as runs
use Rattle.editor.specs.Desks as desks
use Rattle.editor.specs.Desks.{Desk, idle, replanned, on_draft, undrafted}
use Rattle.editor.specs.Drafts.{Outline}
use Rattle.editor.proofs.Passing.{second}
use Rattle.faults.specs.declared.LoadFault.{LoadFault}
use Rattle.bench.specs.declared.bench.Bench.{Bench}
use Rattle.bench.specs.declared.ticket.Ticket.{Ticket}
use Rattle.bench.specs.declared.ticket.Drafting.{Drafting}
use Rattle.bench.specs.declared.ticket.Running.{Running}
use Rattle.bench.specs.State.{State, state, fresh, edited, with_desk, no_run, put_answer, install_answer, take_answer, change_answer, ChangeDone, open_answer, OpenDone, ours, mode_answer, link_answer, close_answer, CloseWith, judgement, after_judge}
use Rattle.bench.specs.Runs.{with_run, BeginDone, released, release_answer, advance_answer}
use Rattle.store.specs.Loads.{load_answer, LoadDone}
use Rattle.history.specs.Histories.{Call, put, open_draft, add_mode, add_link, close, abandon, take, lower, widen, cut, load, judge, begin, release, advance, stop, Does, Made, Leads, none, then}

-- The line that a bench's table is.
abbrev pub line_on : State → Meaning
line_on s = line_of s.desk.tasks

-- The run is one over the line, from its start.
abbrev pub Played : Meaning → Course → Type 0
Played m c = (rs : List runs.Call) × (c ≡ runs.after_calls m rs courses.fresh)

pub record Stands (s : State) : Type 0 where
  pub judged : (v : Verdict ℕ) → s.verdict ≡ Some v → (v ≡ judgement s) × (s.bounds ≡ bound_cells (line_on s))
  pub played : (c : Course) → s.run ≡ Some c → Played (line_on s) c
  pub apart : (s.run ≡ None) ⊎ (s.desk.draft ≡ None)

stands_fresh : (id : ℕ) → Stands (fresh id)
stands_fresh id = record { judged = λ v e. absurd (cc (e)); played = λ c e. absurd (cc (e)); apart = inl refl }

-- No run is open.
unrun : (s : State) → no_run s ≡ Ok tt → s.run ≡ None
unrun s e = by s.run e
  where
    by : (o : Option Course) → ◌≡◌ {A = Answer} (cond (is_some o) (Err RunOpen) (Ok tt)) (Ok tt) → o ≡ None
    by None h = refl
    by (Some c) h = absurd (cc (h))

-- No draft is open.
undraft : (d : Desk) → idle d ≡ Ok tt → d.draft ≡ None
undraft d e = by d.draft e
  where
    by : (o : Option Outline) → ◌≡◌ {A = Answer} (cond (is_some o) (Err DraftOpen) (Ok tt)) (Ok tt) → o ≡ None
    by None h = refl
    by (Some c) h = absurd (cc (h))

-- An edit while no run is open.
stands_edited : (s : State) (d : Desk) → s.run ≡ None → Stands (edited s d)
stands_edited s d e = record { judged = λ v h. absurd (cc (h)); played = λ c h. absurd (cc (e, h)); apart = inl e }

-- A change of the draft alone.
stands_drafted : (s : State) (d : Desk) → d.tasks ≡ s.desk.tasks → (s.run ≡ None) ⊎ (d.draft ≡ None) → Stands s → Stands (with_desk s d)
stands_drafted s d same a x = record {
  judged = λ v h.
      let j = x.judged v h in
      subst (λ (is : List Item). (v ≡ judgement (with_desk s (record { tasks = is; draft = d.draft }))) × (s.bounds ≡ bound_cells (line_of is))) (sym same) j;
  played = λ c h. subst (λ (is : List Item). Played (line_of is) c) (sym same) (x.played c h);
  apart = a;
}

-- Another run over the same table.
stands_run : (s : State) (r : Option Course) → ((c : Course) → r ≡ Some c → Played (line_on s) c) → (r ≡ None) ⊎ (s.desk.draft ≡ None) → Stands s → Stands (with_run s r)
stands_run s r p a x = record { judged = λ v h. x.judged v h; played = p; apart = a }

-- A call that has changed the bench where it was accepted.
stands_by : (s t : State) (b : Bool) → Stands s → (b ≡ true → Stands t) → Stands (cond b t s)
stands_by s t true x f = f refl
stands_by s t false x f = x

passes : (a : Answer) → is_ok a ≡ true → a ≡ Ok tt
passes (Ok u) e = refl
passes (Err x) e = absurd (cc (e))

-- Where two checks pass, one after the other, the first one does.
first : (a b : Answer) → and_then a b ≡ Ok tt → a ≡ Ok tt
first (Ok u) b h = refl
first (Err y) b h = absurd (cc (h))

-- Where a check passes after those before it, no run is open.
unrun_first : (s : State) (own : Answer) → and_then (no_run s) own ≡ Ok tt → s.run ≡ None
unrun_first s own h = unrun s (first (no_run s) own h)

module _ (s : State) where
  put_free : (number place cost period deadline : ℕ) → is_ok (put_answer s number place cost period deadline) ≡ true → s.run ≡ None
  put_free number place cost period deadline e =
      let own = desks.put_answer s.desk number place cost period deadline in
      let rest = and_then (no_run s) own in
      let all = passes (put_answer s number place cost period deadline) e in
      unrun_first s own (second (sporadic_answer cost period deadline) rest (second (task_numbers number place) (and_then (sporadic_answer cost period deadline) rest) all))

  open_free : (number place : ℕ) → open_answer s number place ≡ Ok tt → s.run ≡ None
  open_free number place e =
      let own = desks.open_answer s.desk number place in
      unrun_first s own (second (task_numbers number place) (and_then (no_run s) own) e)

  take_free : (number : ℕ) → is_ok (take_answer s number) ≡ true → s.run ≡ None
  take_free number e =
      let own = desks.take_answer s.desk number in
      unrun_first s own (second (task_numbers number 0) (and_then (no_run s) own) (passes (take_answer s number) e))

  change_free : (number : ℕ) (c : Change) (cells : ℕ) → change_answer s number c cells ≡ Ok tt → s.run ≡ None
  change_free number c cells e =
      let own = desks.changing_answer s.desk number c cells in
      let after_sheet = and_then (no_run s) own in
      let after_numbers = and_then (sheet_answer cells) after_sheet in
      unrun_first s own (second (sheet_answer cells) after_sheet (second (change_numbers c) after_numbers (second (task_numbers number 0) (and_then (change_numbers c) after_numbers) e)))

  load_free : (bytes cells : ℕ) → load_answer s bytes cells ≡ Ok tt → s.run ≡ None
  load_free bytes cells e =
      let own = desks.install_answer s.desk in
      let room = sheet_answer cells in
      unrun_first s own (second room (install_answer s) (second (cond (ltb 65535 bytes) (Err OutOfRange) (Ok tt)) (and_then room (install_answer s)) e))

  -- A close is accepted only where a draft is open, and then no run is.
  close_free : (ticket cells : ℕ) → Stands s → close_answer s ticket cells ≡ Ok tt → s.run ≡ None
  close_free ticket cells x e =
      let room = sheet_answer cells in
      let drafted = on_draft s.desk.draft whole_answer in
      let own = and_then room drafted in
      let d = second room drafted (second (ours s ticket) own (second room (and_then (ours s ticket) own) e)) in
      by s.desk.draft d x.apart
    where
      by : (o : Option Outline) → on_draft o whole_answer ≡ Ok tt → (s.run ≡ None) ⊎ (o ≡ None) → s.run ≡ None
      by None h a = absurd (cc (h))
      by (Some o) h (inl a) = a
      by (Some o) h (inr a) = absurd (cc (a))

-- A change of the draft's graph keeps the tasks, and opens no draft.
pub same_tasks : (b : Bool) (f : Plan → Plan) (d : Desk) → (cond b (replanned f d) d).tasks ≡ d.tasks
same_tasks true f d = refl
same_tasks false f d = refl

same_none : (b : Bool) (f : Plan → Plan) (d : Desk) → d.draft ≡ None → (cond b (replanned f d) d).draft ≡ None
same_none true f d e = ap (option_map (λ (o : Outline). record { number = o.number; place = o.place; plan = f o.plan })) e
same_none false f d e = e

apart_still : (s : State) (d : Desk) → (s.desk.draft ≡ None → d.draft ≡ None) → (s.run ≡ None) ⊎ (s.desk.draft ≡ None) → (s.run ≡ None) ⊎ (d.draft ≡ None)
apart_still s d f (inl a) = inl a
apart_still s d f (inr a) = inr (f a)

stands_planned : (s : State) (b : Bool) (f : Plan → Plan) → Stands s → Stands (with_desk s (cond b (replanned f s.desk) s.desk))
stands_planned s b f x =
    let d = cond b (replanned f s.desk) s.desk in
    stands_drafted s d (same_tasks b f s.desk) (apart_still s d (same_none b f s.desk) x.apart) x

-- Runs go on call by call.
goes_on : (m : Meaning) (rs : List runs.Call) (c : runs.Call) (k : Course) → runs.after_calls m (rs ++ c ∷ []) k ≡ runs.after_call m c (runs.after_calls m rs k)
goes_on m [] c k = refl
goes_on m (r ∷ rs) c k = goes_on m rs c (runs.after_call m r k)

played_on : (m : Meaning) (c : runs.Call) (k : Course) → Played m k → Played m (runs.after_call m c k)
played_on m c k p = (p.0 ++ c ∷ [], ap (runs.after_call m c) p.1 ∙ sym (goes_on m p.0 c courses.fresh))

played_released : (is : List Item) (o : Option ℕ) (mode cost : ℕ) (k : Course) → Played (line_of is) k → Played (line_of is) (released is o mode cost k)
played_released is None mode cost k p = p
played_released is (Some place) mode cost k p = played_on (line_of is) (runs.release place mode cost) k p

-- The open run after a call on it.
module _ (s : State) (f : Course → Course) (on : (k : Course) → Played (line_on s) k → Played (line_on s) (f k)) (x : Stands s) where
  stands_gone : Stands (with_run s (option_map f s.run))
  stands_gone = by s.run refl x.apart
    where
      by : (o : Option Course) → s.run ≡ o → (s.run ≡ None) ⊎ (s.desk.draft ≡ None) → Stands (with_run s (option_map f o))
      by None e a = stands_run s None (λ c h. absurd (cc (h))) (inl refl) x
      by (Some k) e (inl a) = absurd (cc (e, a))
      by (Some k) e (inr a) = stands_run s (Some (f k)) (λ c h. subst (Played (line_on s)) (let z : f k ≡ c = cc (h) in z) (on k (x.played k e))) (inr a) x

-- Each call keeps what stands.
stands_changed : (s t : State) (number : ℕ) (c : Change) (sheet sheet' : List ℕ) (r : Answer) → ChangeDone s number c sheet r t sheet' → Stands s → Stands t
stands_changed s t number c sheet sheet' (Ok u) d x = subst Stands (sym d.1) (stands_edited s (desks.after_changing s.desk number c) (change_free s number c (length sheet) d.0))
stands_changed s t number c sheet sheet' (Err e) d x = subst Stands (sym d.1) x

stands_opened : (s t : State) (number place : ℕ) (r : Result (Ticket Drafting) Refusal) → OpenDone s number place r t → Stands s → Stands t
stands_opened s t number place (Ok k) d x = subst Stands (sym d.2) (stands_drafted s (desks.after_open s.desk number place) refl (inl (open_free s number place d.0)) x)
stands_opened s t number place (Err e) d x = subst Stands (sym d.1) x

stands_closed : (s t : State) (ticket : ℕ) (sheet sheet' : List ℕ) (r : Answer) → CloseWith s ticket sheet r t sheet' → Stands s → Stands t
stands_closed s t ticket sheet sheet' (Ok u) d x = subst Stands (sym d.1) (stands_edited s (desks.after_close s.desk) (close_free s ticket (length sheet) x d.0))
stands_closed s t ticket sheet sheet' (Err e) d x = subst Stands (sym d.1) x

stands_loaded : (s t : State) (text sheet sheet' : List ℕ) (r : Result (Unit {0}) LoadFault) → LoadDone s text sheet r t sheet' → Stands s → Stands t
stands_loaded s t text sheet sheet' (Ok u) d x = subst Stands (sym d.after) (stands_edited s (desks.with_tasks s.desk d.tasks) (load_free s (length text) (length sheet) d.may))
stands_loaded s t text sheet sheet' (Err e) d x = subst Stands (sym d.1) x

stands_begun : (s t : State) (r : Result (Ticket Running) Refusal) → BeginDone s r t → Stands s → Stands t
stands_begun s t (Ok k) d x =
    subst Stands (sym d.2)
    (stands_run s (Some courses.fresh) (λ c h. ([], (let z : courses.fresh ≡ c = cc (h) in sym z))) (inr (undraft s.desk (second (no_run s) (idle s.desk) d.0))) x)
stands_begun s t (Err e) d x = subst Stands (sym d.1) x

stands_judged : (s : State) → Stands s → Stands (after_judge s)
stands_judged s x = record {
  judged = λ v h. ((let z : judgement s ≡ v = cc (h) in sym z), refl);
  played = λ c h. x.played c h;
  apart = x.apart;
}

stands_after : (s t : State) (c : Call) (ok : Bool) → Does s c ok t → Stands s → Stands t
stands_after s t (put number place cost period deadline) ok d x =
    subst Stands (sym d.1) (stands_by s _ (is_ok (put_answer s number place cost period deadline)) x (λ e. stands_edited s _ (put_free s number place cost period deadline e)))
stands_after s t (open_draft number place) ok d x = stands_opened s t number place d.0 d.2 x
stands_after s t (add_mode ticket cost deadline) ok d x =
    subst Stands (sym d.1)
    (stands_by s _ (is_ok (mode_answer s ticket cost deadline)) x (λ e. stands_planned s (is_ok (desks.mode_answer s.desk cost deadline)) (λ p. after_add p cost deadline) x))
stands_after s t (add_link ticket from to gap) ok d x =
    subst Stands (sym d.1)
    (stands_by s _ (is_ok (link_answer s ticket from to gap)) x (λ e. stands_planned s (is_ok (desks.linking_answer s.desk from to gap)) (λ p. after_link p from to gap) x))
stands_after s t (close ticket sheet) ok d x = stands_closed s t ticket sheet d.1 d.0 d.3 x
stands_after s t (abandon ticket) ok d x =
    subst Stands (sym d.1) (stands_by s _ (eqb ticket s.id) x (λ e. stands_drafted s (undrafted s.desk) refl (inr refl) x))
stands_after s t (take number) ok d x = subst Stands (sym d.1) (stands_by s _ (is_ok (take_answer s number)) x (λ e. stands_edited s _ (take_free s number e)))
stands_after s t (lower number mode cost sheet) ok d x = stands_changed s t number (Lower mode cost) sheet d.1 d.0 d.3 x
stands_after s t (widen number from to gap sheet) ok d x = stands_changed s t number (Widen from to gap) sheet d.1 d.0 d.3 x
stands_after s t (cut number from to sheet) ok d x = stands_changed s t number (Cut from to) sheet d.1 d.0 d.3 x
stands_after s t (load text sheet) ok d x = stands_loaded s t text sheet d.1 d.0 d.3 x
stands_after s t judge ok d x = subst Stands (sym d.1) (stands_judged s x)
stands_after s t begin ok d x = stands_begun s t d.0 d.2 x
stands_after s t (release ticket number mode cost) ok d x =
    subst Stands (sym d.1)
    (stands_by s _ (is_ok (release_answer s ticket number mode cost)) x
    (λ e. stands_gone s (released s.desk.tasks (place_of number s.desk.tasks) mode cost) (played_released s.desk.tasks (place_of number s.desk.tasks) mode cost) x))
stands_after s t (advance ticket ticks) ok d x =
    subst Stands (sym d.1)
    (stands_by s _ (is_ok (advance_answer s ticket ticks)) x
    (λ e. stands_gone s (λ c. runs.after_advance (line_on s) c ticks) (played_on (line_on s) (runs.advance ticks)) x))
stands_after s t (stop ticket) ok d x =
    subst Stands (sym d.1) (stands_by s _ (eqb ticket s.id) x (λ e. stands_run s None (λ c h. absurd (cc (h))) (inl refl) x))

pub stands_led : (a z : Bench) (calls : List Made) → Leads a calls z → Stands (state a) → Stands (state z)
stands_led a z [] none x = x
stands_led a z (c ∷ cs) (then {b = b} {c = k} {ok = ok} d rest) x = stands_led b z cs rest (stands_after (state a) (state b) k ok d x)

pub stands_new : (a : Bench) (id : ℕ) → state a ≡ fresh id → Stands (state a)
stands_new a id e = subst Stands (sym e) (stands_fresh id)
