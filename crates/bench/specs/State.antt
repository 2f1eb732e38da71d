-- What a bench is, as a plain value, and what its calls answer and leave. Assumes nothing.
use Rattle.std.specs.Prelude.{◌≡◌, ℕ, ◌+◌, ◌*◌, cond, List, length, replicate, is_ok, Some, None, Ok, Err, Option, Result, is_some, ◌==◌, nat_le, nat_lt, slice_index}
use Rattle.std.specs.Option.{option_map}
use Rattle.line.specs.Meaning.{task_at, modes_in}
use Rattle.line.specs.declared.change.Change.{Change}
use Rattle.line.specs.declared.refusal.Refusal.{Refusal}
use Rattle.line.specs.declared.refusal.Refusal.TheVariants.{OutOfRange, RunOpen, NoTicket, NotThere, NoMemory}
use Rattle.line.specs.Changes.{change_numbers}
use Rattle.sporadic.specs.Tasks.{sporadic_answer}
use Rattle.run.specs.Course.{Course, course}
use Rattle.response.specs.Verdicts.{verdict_of, bound_cells}
use Rattle.response.specs.declared.Verdict.{Verdict}
use Rattle.response.specs.declared.Verdict.TheVariants.{Fits, Over}
use Rattle.line.specs.Answers.{Answer, and_then, sheet_answer}
use Rattle.modes.specs.Plans.{mode_numbers, link_numbers}
use Rattle.table.specs.Numbers.{task_numbers}
use Rattle.table.specs.Items.{Item, line_of, place_of, number_at}
use Rattle.editor.specs.Desks as desks
use Rattle.editor.specs.Desks.{Desk, desk, clear, undrafted, CloseLeaves, ChangeLeaves}
use Rattle.bench.specs.declared.bench.Bench.{Bench}
use Rattle.bench.specs.declared.ticket.Ticket.{Ticket}
use Rattle.bench.specs.declared.ticket.Drafting.{Drafting}

-- A bench: its number, the tasks and the open draft, the verdict that stands, if any, the bounds that are shown, that
-- of mode i of place p at p × 16 + i, and the open run, if any.
pub record State : Type 0 where
  pub id : ℕ
  pub desk : Desk
  pub verdict : Option (Verdict ℕ)
  pub bounds : List ℕ
  pub run : Option Course

abbrev pub state : Bench → State
state b = record { id = b.id; desk = desk b.editor; verdict = b.verdict; bounds = b.bounds; run = option_map course b.run }

-- All bounds 0.
abbrev pub no_bounds : List ℕ
no_bounds = replicate 256 0

-- A new bench: no task, no draft, no verdict, all bounds 0, and no run.
abbrev pub fresh : ℕ → State
fresh id = record { id = id; desk = clear; verdict = None; bounds = no_bounds; run = None }

-- The bench with another desk: tasks and draft.
abbrev pub with_desk : State → Desk → State
with_desk s d = record { id = s.id; desk = d; verdict = s.verdict; bounds = s.bounds; run = s.run }

-- The bench after an edit: the verdict is back to none, and all bounds to 0.
abbrev pub edited : State → Desk → State
edited s d = record { id = s.id; desk = d; verdict = None; bounds = no_bounds; run = s.run }

-- No run is open.
abbrev pub no_run : State → Answer
no_run s = cond (is_some s.run) (Err RunOpen) (Ok tt)

-- put: the numbers, then that no run is open, then the desk's own answer.
abbrev pub put_answer : State → ℕ → ℕ → ℕ → ℕ → ℕ → Answer
put_answer s number place cost period deadline =
    and_then (task_numbers number place) (and_then (sporadic_answer cost period deadline) (and_then (no_run s) (desks.put_answer s.desk number place cost period deadline)))

abbrev pub after_put : State → ℕ → ℕ → ℕ → ℕ → ℕ → State
after_put s number place cost period deadline =
    cond (is_ok (put_answer s number place cost period deadline)) (edited s (desks.after_put s.desk number place cost period deadline)) s

-- A whole table put in where no run and no draft is open and there is no task.
abbrev pub install_answer : State → Answer
install_answer s = and_then (no_run s) (desks.install_answer s.desk)

abbrev pub after_install : State → List Item → State
after_install s is = cond (is_ok (install_answer s)) (edited s (desks.after_install s.desk is)) s

-- take removes a task, and is an edit: the number, then that no run is open, then the desk's own answer.
abbrev pub take_answer : State → ℕ → Answer
take_answer s number = and_then (task_numbers number 0) (and_then (no_run s) (desks.take_answer s.desk number))

abbrev pub after_take : State → ℕ → State
after_take s number = cond (is_ok (take_answer s number)) (edited s (desks.after_take s.desk number)) s

-- lower, widen and cut change a task, and are edits: the numbers, the sheet, then that no run is open, then the desk's
-- own answer.
abbrev pub change_answer : State → ℕ → Change → ℕ → Answer
change_answer s number c cells =
    and_then (task_numbers number 0) (and_then (change_numbers c) (and_then (sheet_answer cells) (and_then (no_run s) (desks.changing_answer s.desk number c cells))))

-- What a change of a task answers and leaves: an accepted one has changed the task, and the sheet as a task of its make
-- leaves it; a refused one changes nothing.
abbrev pub ChangeDone : State → ℕ → Change → List ℕ → Answer → State → List ℕ → Type 0
ChangeDone s number c sheet (Ok u) s' sheet' =
    (change_answer s number c (length sheet) ≡ Ok tt) × (s' ≡ edited s (desks.after_changing s.desk number c)) × ChangeLeaves s.desk.tasks (place_of number s.desk.tasks) c sheet sheet'
ChangeDone s number c sheet (Err e) s' sheet' = (change_answer s number c (length sheet) ≡ Err e) × (s' ≡ s) × (sheet' ≡ sheet)

-- open hands out a ticket of this bench: the numbers, then that no run is open, then the desk's own answer; a refusal,
-- which may be want of memory after all else, changes nothing.
abbrev pub open_answer : State → ℕ → ℕ → Answer
open_answer s number place = and_then (task_numbers number place) (and_then (no_run s) (desks.open_answer s.desk number place))

abbrev pub OpenDone : State → ℕ → ℕ → Result (Ticket Drafting) Refusal → State → Type 0
OpenDone s number place (Ok d) s' =
    (open_answer s number place ≡ Ok tt) × (d.bench ≡ s.id) × (s' ≡ with_desk s (desks.after_open s.desk number place))
OpenDone s number place (Err e) s' = (and_then (open_answer s number place) (Err NoMemory) ≡ Err e) × (s' ≡ s)

-- A ticket that bears another number than the bench is a stranger's.
abbrev pub ours : State → ℕ → Answer
ours s bench = cond (bench == s.id) (Ok tt) (Err NoTicket)

-- mode: the numbers, then the ticket, then the draft's own answer.
abbrev pub mode_answer : State → ℕ → ℕ → ℕ → Answer
mode_answer s bench cost deadline = and_then (mode_numbers cost deadline) (and_then (ours s bench) (desks.mode_answer s.desk cost deadline))

abbrev pub after_mode : State → ℕ → ℕ → ℕ → State
after_mode s bench cost deadline = cond (is_ok (mode_answer s bench cost deadline)) (with_desk s (desks.after_mode s.desk cost deadline)) s

-- link: the numbers, then the ticket, then the draft's own answer.
abbrev pub link_answer : State → ℕ → ℕ → ℕ → ℕ → Answer
link_answer s bench from to gap = and_then (link_numbers from to gap) (and_then (ours s bench) (desks.linking_answer s.desk from to gap))

abbrev pub after_link : State → ℕ → ℕ → ℕ → ℕ → State
after_link s bench from to gap = cond (is_ok (link_answer s bench from to gap)) (with_desk s (desks.after_linking s.desk from to gap)) s

-- close: the sheet, then the ticket, then that there is a draft and its graph is whole.
abbrev pub close_answer : State → ℕ → ℕ → Answer
close_answer s bench cells = and_then (sheet_answer cells) (and_then (ours s bench) (desks.close_answer s.desk cells))

-- What a close by a ticket that bears that number answers and leaves; a refused one changes nothing.
abbrev pub CloseWith : State → ℕ → List ℕ → Answer → State → List ℕ → Type 0
CloseWith s bench sheet (Ok u) s' sheet' =
    (close_answer s bench (length sheet) ≡ Ok tt) × (s' ≡ edited s (desks.after_close s.desk)) × CloseLeaves s.desk.draft sheet sheet'
CloseWith s bench sheet (Err e) s' sheet' = (close_answer s bench (length sheet) ≡ Err e) × (s' ≡ s) × (sheet' ≡ sheet)

-- An accepted close spends the ticket; a refused one hands it back.
abbrev pub CloseDone : State → Ticket Drafting → List ℕ → Result (Unit {0}) (Ticket Drafting × Refusal) → State → List ℕ → Type 0
CloseDone s draft sheet (Ok u) s' sheet' = CloseWith s draft.bench sheet (Ok u) s' sheet'
CloseDone s draft sheet (Err e) s' sheet' = CloseWith s draft.bench sheet (Err e.1) s' sheet' × (e.0 ≡ draft)

-- abandon forgets the draft; a stranger's ticket is only ended.
abbrev pub after_abandon : State → ℕ → State
after_abandon s bench = cond (bench == s.id) (with_desk s (undrafted s.desk)) s

-- A verdict on places as one on the numbers of the tasks there.
abbrev pub on_numbers : List Item → Verdict ℕ → Verdict ℕ
on_numbers is Fits = Fits
on_numbers is (Over place mode) = Over (number_at is place) mode

-- judge answers the verdict of the response-time test over the table; it and the bounds stand until an edit.
abbrev pub judgement : State → Verdict ℕ
judgement s = on_numbers s.desk.tasks (verdict_of (line_of s.desk.tasks))

abbrev pub after_judge : State → State
after_judge s = record { id = s.id; desk = s.desk; verdict = Some (judgement s); bounds = bound_cells (line_of s.desk.tasks); run = s.run }

-- The bound shown of a mode of the task at a place.
abbrev pub bound_at_place : State → Option ℕ → ℕ → Result ℕ Refusal
bound_at_place s None mode = Err NotThere
bound_at_place s (Some place) mode =
    cond (nat_lt mode (modes_in (task_at (line_of s.desk.tasks) place))) (Ok (slice_index s.bounds (place * 16 + mode))) (Err NotThere)

-- A task's number is from 1 to 999, and a mode from 0 to 15.
abbrev pub mode_in_range : ℕ → ℕ → Answer
mode_in_range number mode = and_then (task_numbers number 0) (cond (nat_le 16 mode) (Err OutOfRange) (Ok tt))

-- What is answered where a check passes; its refusal stands.
abbrev pub after_check : {A : Type 0} → Answer → Result A Refusal → Result A Refusal
after_check (Ok u) next = next
after_check (Err e) next = Err e

-- bound: task and mode are in range, and they are there.
abbrev pub bound_answer : State → ℕ → ℕ → Result ℕ Refusal
bound_answer s number mode = after_check (mode_in_range number mode) (bound_at_place s (place_of number s.desk.tasks) mode)
