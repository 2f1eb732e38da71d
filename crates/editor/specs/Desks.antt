-- What an editor has before it, as a plain value, and what its calls answer and leave. Assumes nothing.
use Rattle.std.specs.Prelude.{◌≡◌, ℕ, true, false, cond, List, [], length, is_some, is_ok, Some, None, Ok, Err, Option, Result, nat_lt, slice_index_or}
use Rattle.std.specs.Option.{option_map}
use Rattle.line.specs.declared.refusal.Refusal.{Refusal}
use Rattle.line.specs.declared.refusal.Refusal.TheVariants.{DraftOpen, NoTicket, HasTasks, NotThere, NoMemory}
use Rattle.line.specs.declared.change.Change.{Change}
use Rattle.line.specs.Meaning.{task_at}
use Rattle.line.specs.Changes.{change_numbers, change_answer}
use Rattle.line.specs.Answers.{Answer, and_then}
pub use Rattle.line.specs.Answers.{sheet_answer}
use Rattle.modes.specs.Plans.{Plan, empty_plan, mode_numbers, link_numbers, add_answer, after_add, link_answer, after_link, whole_answer}
use Rattle.sporadic.specs.Tasks.{sporadic_answer}
use Rattle.table.specs.Numbers.{task_numbers}
use Rattle.table.specs.Items.{Item, sporadic, angular, blank, line_of, place_of, there_answer, without, enter_answer, entered, changed_make, changed_at, Leaves}
use Rattle.table.specs.Tables.{items}
use Rattle.editor.specs.declared.editor.Editor.{Editor}
use Rattle.editor.specs.Drafts.{Outline, outline}

-- The tasks by place, and the open draft, if any.
pub record Desk : Type 0 where
  pub tasks : List Item
  pub draft : Option Outline

abbrev pub desk : Editor → Desk
desk e = record { tasks = items e.table; draft = option_map outline e.draft }

-- No task and no draft.
abbrev pub clear : Desk
clear = record { tasks = []; draft = None }

abbrev pub with_tasks : Desk → List Item → Desk
with_tasks d is = record { tasks = is; draft = d.draft }

-- The same tasks, and no draft.
abbrev pub undrafted : Desk → Desk
undrafted d = record { tasks = d.tasks; draft = None }

-- No draft is open.
abbrev pub idle : Desk → Answer
idle d = cond (is_some d.draft) (Err DraftOpen) (Ok tt)

-- put: number and place are in range; cost, period and deadline are in range and in order; no draft is open;
-- and the task may enter.
abbrev pub put_answer : Desk → ℕ → ℕ → ℕ → ℕ → ℕ → Answer
put_answer d number place cost period deadline =
    and_then (task_numbers number place) (and_then (sporadic_answer cost period deadline) (and_then (idle d) (enter_answer d.tasks number false)))

abbrev pub after_put : Desk → ℕ → ℕ → ℕ → ℕ → ℕ → Desk
after_put d number place cost period deadline =
    cond (is_ok (put_answer d number place cost period deadline))
    (with_tasks d (entered d.tasks place (record { number = number; make = sporadic cost period deadline })))
    d

-- A whole table may be put in where no draft is open and there is no task.
abbrev pub install_answer : Desk → Answer
install_answer d = and_then (idle d) (cond (nat_lt 0 (length d.tasks)) (Err HasTasks) (Ok tt))

abbrev pub after_install : Desk → List Item → Desk
after_install d is = cond (is_ok (install_answer d)) (with_tasks d is) d

-- open: number and place are in range, no draft is open, and an angular task of that number may enter.
abbrev pub open_answer : Desk → ℕ → ℕ → Answer
open_answer d number place = and_then (task_numbers number place) (and_then (idle d) (enter_answer d.tasks number true))

abbrev pub after_open : Desk → ℕ → ℕ → Desk
after_open d number place = record { tasks = d.tasks; draft = Some (record { number = number; place = place; plan = empty_plan }) }

-- An accepted open has an empty draft; a refusal, which may be want of memory after all else, changes nothing.
abbrev pub OpenDone : Desk → ℕ → ℕ → Result (Unit {0}) Refusal → Desk → Type 0
OpenDone d number place (Ok u) d' = (open_answer d number place ≡ Ok tt) × (d' ≡ after_open d number place)
OpenDone d number place (Err e) d' = (and_then (open_answer d number place) (Err NoMemory) ≡ Err e) × (d' ≡ d)

-- What a call on the draft answers; without one it is refused.
abbrev pub on_draft : Option Outline → (Plan → Answer) → Answer
on_draft None f = Err NoTicket
on_draft (Some o) f = f o.plan

-- The draft with another plan.
abbrev pub replanned : (Plan → Plan) → Desk → Desk
replanned f d = record { tasks = d.tasks; draft = option_map (λ o. record { number = o.number; place = o.place; plan = f o.plan }) d.draft }

-- mode: the numbers, then that there is a draft, then the draft's own answer.
abbrev pub mode_answer : Desk → ℕ → ℕ → Answer
mode_answer d cost deadline = and_then (mode_numbers cost deadline) (on_draft d.draft (λ p. add_answer p cost deadline))

abbrev pub after_mode : Desk → ℕ → ℕ → Desk
after_mode d cost deadline = cond (is_ok (mode_answer d cost deadline)) (replanned (λ p. after_add p cost deadline) d) d

-- link: the numbers, then that there is a draft, then the draft's own answer.
abbrev pub linking_answer : Desk → ℕ → ℕ → ℕ → Answer
linking_answer d from to gap = and_then (link_numbers from to gap) (on_draft d.draft (λ p. link_answer p from to gap))

abbrev pub after_linking : Desk → ℕ → ℕ → ℕ → Desk
after_linking d from to gap = cond (is_ok (linking_answer d from to gap)) (replanned (λ p. after_link p from to gap) d) d

-- close: the sheet, then that there is a draft, then that its graph is whole.
abbrev pub close_answer : Desk → ℕ → Answer
close_answer d cells = and_then (sheet_answer cells) (on_draft d.draft whole_answer)

-- The tasks with the draft's among them.
abbrev pub tasks_with : List Item → Option Outline → List Item
tasks_with is None = is
tasks_with is (Some o) = entered is o.place (record { number = o.number; make = angular o.plan })

abbrev pub after_close : Desk → Desk
after_close d = record { tasks = tasks_with d.tasks d.draft; draft = None }

-- What closing the draft makes of the work sheet.
abbrev pub CloseLeaves : Option Outline → List ℕ → List ℕ → Type 0
CloseLeaves None was is = is ≡ was
CloseLeaves (Some o) was is = Leaves (angular o.plan) was is

-- An accepted close has the task in the table, no draft, and the sheet filled for it; a refused one changes nothing.
abbrev pub CloseDone : Desk → List ℕ → Result (Unit {0}) Refusal → Desk → List ℕ → Type 0
CloseDone d sheet (Ok u) d' sheet' = (close_answer d (length sheet) ≡ Ok tt) × (d' ≡ after_close d) × CloseLeaves d.draft sheet sheet'
CloseDone d sheet (Err e) d' sheet' = (close_answer d (length sheet) ≡ Err e) × (d' ≡ d) × (sheet' ≡ sheet)

-- take: the number is in range, no draft is open, and the task is there.
abbrev pub take_answer : Desk → ℕ → Answer
take_answer d number = and_then (task_numbers number 0) (and_then (idle d) (there_answer (place_of number d.tasks)))

abbrev pub after_take : Desk → ℕ → Desk
after_take d number = cond (is_ok (take_answer d number)) (with_tasks d (without d.tasks (place_of number d.tasks))) d

-- Where the task of a number stands: no draft is open, and the task is there.
abbrev pub found_at : Option ℕ → Result ℕ Refusal
found_at None = Err NotThere
found_at (Some place) = Ok place

abbrev pub find_answer : Desk → ℕ → Result ℕ Refusal
find_answer d number = cond (is_some d.draft) (Err DraftOpen) (found_at (place_of number d.tasks))

-- What is then done with the place answers; a refusal before it stands.
abbrev pub at_place : Result ℕ Refusal → (ℕ → Answer) → Answer
at_place (Err e) f = Err e
at_place (Ok place) f = f place

-- lower, widen, cut: the task's number and the change's are in range, the sheet is long enough, no draft is open, the
-- task is there, and its own answer.
abbrev pub changing_answer : Desk → ℕ → Change → ℕ → Answer
changing_answer d number c cells =
    and_then (task_numbers number 0) (and_then (change_numbers c) (and_then (sheet_answer cells)
    (at_place (find_answer d number) (λ place. change_answer (task_at (line_of d.tasks) place).graph c))))

-- The tasks with the one at a place changed.
abbrev pub changed_where : List Item → Option ℕ → Change → List Item
changed_where is None c = is
changed_where is (Some place) c = changed_at is place c

abbrev pub after_changing : Desk → ℕ → Change → Desk
after_changing d number c = with_tasks d (changed_where d.tasks (place_of number d.tasks) c)

-- What the change makes of the work sheet: a sporadic task leaves it alone; an angular one fills the cells of its
-- modes, and keeps the others.
abbrev pub ChangeLeaves : List Item → Option ℕ → Change → List ℕ → List ℕ → Type 0
ChangeLeaves is None c was now = now ≡ was
ChangeLeaves is (Some place) c was now = Leaves (changed_make c (slice_index_or is place blank).make) was now

-- An accepted change has changed the task and the sheet; a refused one changes nothing.
abbrev pub ChangingDone : Desk → ℕ → Change → List ℕ → Answer → Desk → List ℕ → Type 0
ChangingDone d number c sheet (Ok u) d' sheet' =
    (changing_answer d number c (length sheet) ≡ Ok tt) × (d' ≡ after_changing d number c) × ChangeLeaves d.tasks (place_of number d.tasks) c sheet sheet'
ChangingDone d number c sheet (Err e) d' sheet' = (changing_answer d number c (length sheet) ≡ Err e) × (d' ≡ d) × (sheet' ≡ sheet)
