-- Worked examples: tables as plain values, and what the definitions that the contracts name give of them.
-- Assumes nothing.
use Rattle.std.specs.Prelude.{◌≡◌, ℕ, List, [], ◌∷◌, ◌++◌, map, replicate, Some, None, Ok, Err, Option, Result}
use Rattle.std.specs.Option.{unwrap_or}
use Rattle.line.specs.Meaning.{Task, task_at, most_in}
use Rattle.line.specs.Joins.{joined}
use Rattle.response.specs.Bounds.{bound_of}
use Rattle.response.specs.Verdicts.{verdict_of, shown_bound, bound_cells}
use Rattle.response.specs.declared.Verdict.{Verdict}
use Rattle.response.specs.declared.Verdict.TheVariants.{Fits, Over}
use Rattle.line.specs.Meaning.{sole}
use Rattle.sporadic.specs.Tasks.{sporadic_task}
use Rattle.modes.specs.Plans.{Plan, empty_plan, with_mode, with_gap}
use Rattle.table.specs.Items.{Item, sporadic, angular, line_of, place_of}
use Rattle.bench.specs.State.{on_numbers}
use Rattle.line.specs.declared.refusal.Refusal.{Refusal}
use Rattle.line.specs.declared.refusal.Refusal.TheVariants.{NotYet}
use Rattle.run.specs.declared.Late.{Late}
use Rattle.run.specs.Course.{Course, fresh, worst_at}
use Rattle.run.specs.Calls.{release, advance, release_answer, after_calls}
use Rattle.cases.specs.Guards.{guarded_task}

-- ---- The tables
-- A sporadic task: its number, cost, period and deadline.
abbrev pub clock : ℕ → ℕ → ℕ → ℕ → Item
clock number cost period deadline = record { number = number; make = sporadic cost period deadline }

-- An angular task: its number, and its modes and gaps.
abbrev pub crank : ℕ → Plan → Item
crank number plan = record { number = number; make = angular plan }

-- Mode 0 with cost 5 and deadline 20, and mode 1 with cost 3 and deadline 12.
abbrev pub two_modes : Plan
two_modes = with_mode (with_mode empty_plan 5 20) 3 12

-- The gaps between them: from 0 to 0, from 0 to 1, from 1 to 0 and from 1 to 1.
abbrev pub linked_modes : Plan
linked_modes = with_gap (with_gap (with_gap (with_gap two_modes 0 0 30) 0 1 20) 1 0 15) 1 1 12

-- Table E with a deadline of its last task: task 7, below it task 20, and below that task 30.
abbrev pub table_to : ℕ → List Item
table_to deadline = clock 7 2 10 10 ∷ crank 20 linked_modes ∷ clock 30 6 50 deadline ∷ []

-- Table E.
abbrev pub table_e : List Item
table_e = table_to 30

-- Sixteen modes of deadline 10, which all follow one another after 10 ticks: mode 15 costs 9, and the others 1.
abbrev pub sixteen_modes : Plan
sixteen_modes = record {
  modes = replicate 15 (record { cost = 1; deadline = 10 }) ++ record { cost = 9; deadline = 10 } ∷ [];
  gaps = replicate 256 (Some 10);
}

-- Task 1 of those modes, and below it task 2 of cost 2 with a deadline.
abbrev pub table_sixteen : ℕ → List Item
table_sixteen deadline = crank 1 sixteen_modes ∷ clock 2 2 100 deadline ∷ []

-- ---- What is asked of them
-- The place of the task of a number; no task is at 16.
abbrev pub place_by : List Item → ℕ → ℕ
place_by is number = unwrap_or (place_of number is) 16

-- The most work of a task in a window.
abbrev pub most_by : List Item → ℕ → ℕ → ℕ
most_by is number window = most_in (task_at (line_of is) (place_by is number)) window

-- The bound of a task's mode, if it has one.
abbrev pub bound_by : List Item → ℕ → ℕ → Option ℕ
bound_by is number mode = bound_of (line_of is) (place_by is number) mode

-- The bound of a task's mode as it is shown with the verdict.
abbrev pub shown_by : List Item → ℕ → ℕ → ℕ
shown_by is number mode = shown_bound (line_of is) (place_by is number) mode

-- The verdict by place and mode.
abbrev pub verdict_by : List Item → Verdict ℕ
verdict_by is = verdict_of (line_of is)

-- The verdict by task and mode, as the bench gives it.
abbrev pub bench_verdict : List Item → Verdict ℕ
bench_verdict is = on_numbers is (verdict_by is)

-- The bound of task 7 below one other task.
abbrev pub below_of : Task → Option ℕ
below_of t = bound_of (joined (sole t) (line_of (clock 7 2 10 10 ∷ []))) 1 0

-- The worked run: at clock 0 tasks 7, 20 in its mode 1, and 30 are released, each in full; at 10 task 7 again, and at 12
-- task 20 in mode 1 again.
abbrev pub worked_run : List Item → Course
worked_run is = after_calls (line_of is) (release 0 0 2 ∷ release 1 1 3 ∷ release 2 0 6 ∷ advance 10 ∷ release 0 0 2 ∷ advance 2 ∷ release 1 1 3 ∷ advance 8 ∷ []) fresh

-- The longest time of a task and mode in it.
abbrev pub took_by : List Item → ℕ → ℕ → ℕ
took_by is number mode = worst_at (worked_run is).worst (place_by is number) mode

-- What task 20 in mode 1 is answered a number of ticks after its release in that mode.
abbrev pub again_after : ℕ → Result (Unit {0}) Refusal
again_after ticks = release_answer (line_of table_e) (after_calls (line_of table_e) (release 1 1 3 ∷ advance ticks ∷ []) fresh) 1 1 3

-- ---- The examples
-- What an example is about: work in ticks, bounds where there are any, bounds as shown, a verdict, times that jobs took,
-- the clock and the late place and mode of a run, or what releases are answered.
pub data Value : Type 0 where
  times : List ℕ → Value
  ended : ℕ → Option (Late ℕ) → Value
  answers : List (Result (Unit {0}) Refusal) → Value
  work : List ℕ → Value
  bounds : List (Option ℕ) → Value
  shown : List ℕ → Value
  places : Verdict ℕ → Value
  bench : Verdict ℕ → Value

-- An example: what the definitions give, and what is wanted.
pub record Example : Type 0 where
  pub found : Value
  pub wanted : Value

abbrev pub gives : Value → Value → Example
gives found wanted = record { found = found; wanted = wanted }

-- The work of tasks 20 and 7 of table E in windows of so many ticks.
abbrev pub work_of20 : Example
work_of20 = gives (work (map (most_by table_e 20) (0 ∷ 1 ∷ 12 ∷ 13 ∷ 15 ∷ 16 ∷ 27 ∷ 28 ∷ []))) (work (0 ∷ 5 ∷ 5 ∷ 6 ∷ 6 ∷ 8 ∷ 9 ∷ 11 ∷ []))

abbrev pub work_of7 : Example
work_of7 = gives (work (map (most_by table_e 7) (10 ∷ 11 ∷ []))) (work (2 ∷ 4 ∷ []))

-- The bounds of table E: of task 7, of both modes of task 20, and of task 30.
abbrev pub bounds_of_e : Example
bounds_of_e = gives (bounds (bound_by table_e 7 0 ∷ bound_by table_e 20 0 ∷ bound_by table_e 20 1 ∷ bound_by table_e 30 0 ∷ [])) (bounds (Some 2 ∷ Some 7 ∷ Some 5 ∷ Some 18 ∷ []))

-- Table E fits, and it fits as long as the deadline of task 30 is not below its bound.
abbrev pub fits_e : Example
fits_e = gives (bench (bench_verdict table_e)) (bench Fits)

abbrev pub fits18 : Example
fits18 = gives (bench (bench_verdict (table_to 18))) (bench Fits)

-- One tick less, and it is over at place 2, which is task 30; the bounds before that are shown, and its own is not.
abbrev pub over17 : Example
over17 = gives (places (verdict_by (table_to 17))) (places (Over 2 0))

abbrev pub over_at30 : Example
over_at30 = gives (bench (bench_verdict (table_to 17))) (bench (Over 30 0))

abbrev pub shown17 : Example
shown17 = gives (shown (shown_by (table_to 17) 7 0 ∷ shown_by (table_to 17) 20 0 ∷ shown_by (table_to 17) 20 1 ∷ shown_by (table_to 17) 30 0 ∷ [])) (shown (2 ∷ 7 ∷ 5 ∷ 0 ∷ []))

-- All 256 cells of table E: 16 for each place, a mode's bound in each, and else 0.
abbrev pub cells_of_e : Example
cells_of_e = gives (shown (bound_cells (line_of table_e))) (shown (2 ∷ replicate 15 0 ++ 7 ∷ 5 ∷ replicate 14 0 ++ 18 ∷ replicate 223 0))

-- The work of the sixteen modes in one tick is that of the costliest.
abbrev pub work_of_sixteen : Example
work_of_sixteen = gives (work (most_by (table_sixteen 20) 1 1 ∷ [])) (work (9 ∷ []))

-- The task below them has a bound at its deadline, and with one tick less none.
abbrev pub bounds_of_sixteen : Example
bounds_of_sixteen = gives (bounds (bound_by (table_sixteen 20) 2 0 ∷ bound_by (table_sixteen 19) 2 0 ∷ [])) (bounds (Some 20 ∷ None ∷ []))

-- A table with no task fits.
abbrev pub fits_empty : Example
fits_empty = gives (bench (bench_verdict [])) (bench Fits)

-- Task 7 below a sporadic task of cost 4 and period 6 has the bound 6, and below a guarded one the bound 10.
abbrev pub below_other : Example
below_other = gives (bounds (below_of (sporadic_task 4 6 6) ∷ below_of (guarded_task 4 6 6) ∷ [])) (bounds (Some 6 ∷ Some 10 ∷ []))

-- In the worked run of table E task 30 takes 16 ticks, task 7 takes 2, and task 20 in mode 1 takes 5; the run ends at clock
-- 20, and no job is late.
abbrev pub takes16 : Example
takes16 = gives (times (took_by table_e 30 0 ∷ took_by table_e 7 0 ∷ took_by table_e 20 1 ∷ [])) (times (16 ∷ 2 ∷ 5 ∷ []))

abbrev pub on_time : Example
on_time = gives (ended (worked_run table_e).clock (worked_run table_e).late) (ended 20 None)

-- With deadline 15 of task 30, which is at place 2, that run is late at clock 15.
abbrev pub late_at15 : Example
late_at15 = gives (ended (worked_run (table_to 15)).clock (worked_run (table_to 15)).late) (ended 15 (Some (record { task = 2; mode = 0 })))

-- Task 20 in mode 1 again after 11 ticks is too early; after 12 it is accepted.
abbrev pub too_early : Example
too_early = gives (answers (again_after 11 ∷ again_after 12 ∷ [])) (answers (Err NotYet ∷ Ok tt ∷ []))

abbrev pub examples : List Example
examples =
    takes16 ∷ on_time ∷ late_at15 ∷ too_early ∷
    work_of20 ∷ work_of7 ∷ bounds_of_e ∷ fits_e ∷ fits18 ∷ over17 ∷ over_at30 ∷ shown17 ∷ cells_of_e ∷ work_of_sixteen ∷ bounds_of_sixteen ∷ fits_empty ∷ below_other ∷ []

-- In every example the definitions give what is wanted.
abbrev pub Worked : Type 0
Worked = map (λ e. e.found) examples ≡ map (λ e. e.wanted) examples
