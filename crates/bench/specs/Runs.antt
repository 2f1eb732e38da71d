-- What the calls of a run answer and leave on a bench. Assumes nothing.
use Rattle.std.specs.Prelude.{◌≡◌, ℕ, cond, is_ok, List, Some, None, Ok, Err, Option, Result, ◌==◌}
use Rattle.std.specs.Option.{option_map, unwrap_or}
use Rattle.line.specs.declared.refusal.Refusal.{Refusal}
use Rattle.line.specs.declared.refusal.Refusal.TheVariants.{NoTicket, NotThere}
use Rattle.line.specs.Answers.{Answer, and_then}
use Rattle.run.specs.declared.Advance.{Advance}
use Rattle.run.specs.Course as courses
use Rattle.run.specs.Course.{Course}
use Rattle.run.specs.Calls as runs
use Rattle.run.specs.Calls.{job_numbers, tick_numbers}
use Rattle.table.specs.Numbers.{task_numbers}
use Rattle.table.specs.Items.{Item, line_of, place_of, number_at}
use Rattle.editor.specs.Desks.{idle}
use Rattle.bench.specs.declared.ticket.Ticket.{Ticket}
use Rattle.bench.specs.declared.ticket.Running.{Running}
use Rattle.bench.specs.State.{State, no_run, after_check, mode_in_range}

-- The bench with another run, or none.
abbrev pub with_run : State → Option Course → State
with_run s r = record { id = s.id; desk = s.desk; verdict = s.verdict; bounds = s.bounds; run = r }

-- begin: no run is open, and no draft.
abbrev pub begin_answer : State → Answer
begin_answer s = and_then (no_run s) (idle s.desk)

-- An accepted begin hands out a ticket of this bench, and a new run is open; a refused one changes nothing.
abbrev pub BeginDone : State → Result (Ticket Running) Refusal → State → Type 0
BeginDone s (Ok t) s' = (begin_answer s ≡ Ok tt) × (t.bench ≡ s.id) × (s' ≡ with_run s (Some courses.fresh))
BeginDone s (Err e) s' = (begin_answer s ≡ Err e) × (s' ≡ s)

-- The run that a ticket is of, which bears a bench's number: that of the bench of this number, if one is open there.
abbrev pub played : State → ℕ → Option Course
played s bench = cond (bench == s.id) s.run None

-- What is answered of a run; a stranger's ticket is refused.
abbrev pub of_run : {A : Type 0} → Option Course → (Course → Result A Refusal) → Result A Refusal
of_run None f = Err NoTicket
of_run (Some c) f = f c

-- What is answered of the place of a task; a task that is not there is refused.
abbrev pub of_place : {A : Type 0} → Option ℕ → (ℕ → Result A Refusal) → Result A Refusal
of_place None f = Err NotThere
of_place (Some place) f = f place

-- Whether a ticket that bears that number is of an open run.
abbrev pub played_answer : State → ℕ → Answer
played_answer s bench = of_run (played s bench) (λ c. Ok tt)

-- release: the numbers, then the ticket, then that the task is there, then the run's own answer.
abbrev pub release_numbers : ℕ → ℕ → ℕ → Answer
release_numbers number mode cost = and_then (task_numbers number 0) (job_numbers mode cost)

abbrev pub release_answer : State → ℕ → ℕ → ℕ → ℕ → Answer
release_answer s bench number mode cost =
    and_then (release_numbers number mode cost)
    (of_run (played s bench) (λ c. of_place (place_of number s.desk.tasks) (λ place. runs.release_answer (line_of s.desk.tasks) c place mode cost)))

-- The run after a release at a place, if that task is there.
abbrev pub released : List Item → Option ℕ → ℕ → ℕ → Course → Course
released is None mode cost c = c
released is (Some place) mode cost c = runs.after_release (line_of is) c place mode cost

abbrev pub after_release : State → ℕ → ℕ → ℕ → ℕ → State
after_release s bench number mode cost =
    cond (is_ok (release_answer s bench number mode cost)) (with_run s (option_map (released s.desk.tasks (place_of number s.desk.tasks) mode cost) s.run)) s

-- What an advance tells, with the late task by its number.
abbrev pub told : List Item → Advance ℕ → Advance ℕ
told is a = record { ticks = a.ticks; late = option_map (λ l. record { task = number_at is l.task; mode = l.mode }) a.late }

abbrev pub told_by : List Item → Result (Advance ℕ) Refusal → Result (Advance ℕ) Refusal
told_by is (Ok a) = Ok (told is a)
told_by is (Err e) = Err e

-- advance: the ticks, then the ticket, then the run's own answer.
abbrev pub advance_answer : State → ℕ → ℕ → Result (Advance ℕ) Refusal
advance_answer s bench n =
    after_check (tick_numbers n) (of_run (played s bench) (λ c. told_by s.desk.tasks (runs.advance_answer (line_of s.desk.tasks) c n)))

abbrev pub after_advance : State → ℕ → ℕ → State
after_advance s bench n =
    cond (is_ok (advance_answer s bench n)) (with_run s (option_map (λ c. runs.after_advance (line_of s.desk.tasks) c n) s.run)) s

-- worst: task and mode, then the ticket, then that the task is there, then the run's own answer.
abbrev pub worst_answer : State → ℕ → ℕ → ℕ → Result ℕ Refusal
worst_answer s bench number mode =
    after_check (mode_in_range number mode)
    (of_run (played s bench) (λ c. of_place (place_of number s.desk.tasks) (λ place. runs.worst_answer (line_of s.desk.tasks) c place mode)))

-- stop answers the clock of the run, and 0 for a stranger's ticket.
abbrev pub stop_answer : State → ℕ → ℕ
stop_answer s bench = unwrap_or (option_map (λ c. c.clock) (played s bench)) 0

-- stop ends the run; a stranger's ticket is only ended.
abbrev pub after_stop : State → ℕ → State
after_stop s bench = cond (bench == s.id) (with_run s None) s
