-- The tasks of a table, as plain values, and what the table's calls answer and leave. Assumes nothing.
use Rattle.std.specs.Prelude.{◌≡◌, ℕ, suc, ◌+◌, min, Bool, true, false, cond, not, ◌&&◌, List, [], ◌∷◌, length, is_some, is_ok, Some, None, Ok, Err, Option, Result, ◌==◌, nat_le, nat_lt, slice_index_or, slice_set}
use Rattle.std.specs.List.{insert, remove}
use Rattle.std.specs.Option.{option_map}
use Rattle.line.specs.declared.refusal.Refusal.TheVariants.{NoRoom, NumberTaken, NotThere}
use Rattle.line.specs.declared.change.Change.{Change}
use Rattle.line.specs.Changes.{change_numbers, change_answer}
use Rattle.line.specs.Meaning.{Task, Meaning, task_at}
use Rattle.line.specs.Answers.{Answer, and_then, sheet_answer}
use Rattle.modes.specs.Plans.{Plan, graph_of, changed_plan}
use Rattle.sporadic.specs.Tasks.{sporadic_task, changed_cost, changed_period}
use Rattle.angular.specs.Tasks.{angular_task}
use Rattle.angular.specs.Sheets.{Filled, Kept}
use Rattle.table.specs.Numbers.{task_numbers}
use Rattle.table.specs.declared.make.Kind.{Kind}
use Rattle.table.specs.declared.make.Kind.TheVariants.{Sporadic, Angular}

-- A task's make: sporadic with its cost, period and deadline, or angular with its modes and gaps.
pub data Make : Type 0 where
  sporadic : ℕ → ℕ → ℕ → Make
  angular : Plan → Make

-- A task of the table: its number and its make.
pub record Item : Type 0 where
  pub number : ℕ
  pub make : Make

-- What is read past the last task.
abbrev pub blank : Item
blank = record { number = 0; make = sporadic 0 0 0 }

-- What a task means to the line.
abbrev pub task_of : Make → Task
task_of (sporadic cost period deadline) = sporadic_task cost period deadline
task_of (angular plan) = angular_task plan

-- The line that a list of tasks is.
abbrev pub line_of : List Item → Meaning
line_of is = record { count = length is; at = λ k. task_of (slice_index_or is k blank).make }

-- The place of the first task with a number, if there is one.
abbrev pub place_of : ℕ → List Item → Option ℕ
place_of number [] = None
place_of number (i ∷ is) = cond (i.number == number) (Some 0) (option_map suc (place_of number is))

-- The number of the task at a place, and 0 past the last.
abbrev pub number_at : List Item → ℕ → ℕ
number_at is place = (slice_index_or is place blank).number

abbrev pub is_angular : Make → Bool
is_angular (sporadic cost period deadline) = false
is_angular (angular plan) = true

abbrev pub kind_of : Make → Kind
kind_of (sporadic cost period deadline) = Sporadic
kind_of (angular plan) = Angular

-- Whether a task of that kind is angular.
abbrev pub is_angular_kind : Kind → Bool
is_angular_kind Sporadic = false
is_angular_kind Angular = true

-- How many of the tasks are angular.
abbrev pub angulars : List Item → ℕ
angulars [] = 0
angulars (i ∷ is) = cond (is_angular i.make) 1 0 + angulars is

-- There is room for a 16th task, and for an 8th angular one.
abbrev pub room_for : List Item → Bool → Bool
room_for is crank = not (crank && nat_le 8 (angulars is)) && nat_lt (length is) 16

-- A task may enter where there is room for it and no other has its number.
abbrev pub enter_answer : List Item → ℕ → Bool → Answer
enter_answer is number crank = cond (room_for is crank) (cond (is_some (place_of number is)) (Err NumberTaken) (Ok tt)) (Err NoRoom)

-- A task with a number in range may enter.
abbrev pub enters : List Item → Item → Bool
enters is i = is_ok (and_then (task_numbers i.number 0) (enter_answer is i.number (is_angular i.make)))

-- The tasks with one more at a place, or at the end where the place is past it.
abbrev pub entered : List Item → ℕ → Item → List Item
entered is place i = insert is (min place (length is)) i

-- A task is put in, or one that may not enter is handed back and the table stays.
abbrev pub InsertDone : {T : Type 0} → List Item → ℕ → Item → List Item → (T → Item) → Result (Unit {0}) T → Type 0
InsertDone is place i is' of (Ok u) = (enters is i ≡ true) × (is' ≡ entered is place i)
InsertDone is place i is' of (Err t) = (enters is i ≡ false) × (of t ≡ i) × (is' ≡ is)

-- What always holds of a table's tasks: each number is from 1 to 999 and no two are the same.
abbrev pub apart : List Item → Bool
apart [] = true
apart (i ∷ is) = is_ok (task_numbers i.number 0) && (not (is_some (place_of i.number is)) && apart is)

-- What showing a task, or closing it, makes of the work sheet: a sporadic task leaves it alone; an angular
-- one fills the cells of its modes, and keeps the others.
abbrev pub Leaves : Make → List ℕ → List ℕ → Type 0
Leaves (sporadic cost period deadline) was is = is ≡ was
Leaves (angular plan) was is = Filled (graph_of plan) is × Kept (length plan.modes) was is

-- A make after a change.
abbrev pub changed_make : Change → Make → Make
changed_make c (sporadic cost period deadline) = sporadic (changed_cost c cost) (changed_period c period) deadline
changed_make c (angular plan) = angular (changed_plan c plan)

-- The tasks with the one at a place changed.
abbrev pub changed_at : List Item → ℕ → Change → List Item
changed_at is place c = slice_set is place (record { number = number_at is place; make = changed_make c (slice_index_or is place blank).make })

-- A change of the task at a place: its numbers, the work sheet, and the task's own answer.
abbrev pub task_answer : List Item → ℕ → Change → ℕ → Answer
task_answer is place c cells = and_then (change_numbers c) (and_then (sheet_answer cells) (change_answer (task_at (line_of is) place).graph c))

-- The task at a place is changed, and the sheet is as a task of its make leaves it; a refusal changes nothing.
abbrev pub ChangeDone : List Item → ℕ → Change → List ℕ → Answer → List Item → List ℕ → Type 0
ChangeDone is place c sheet (Ok u) is' sheet' =
    (task_answer is place c (length sheet) ≡ Ok tt) × (is' ≡ changed_at is place c) × Leaves (changed_make c (slice_index_or is place blank).make) sheet sheet'
ChangeDone is place c sheet (Err e) is' sheet' = (task_answer is place c (length sheet) ≡ Err e) × (is' ≡ is) × (sheet' ≡ sheet)

-- A task that is named is there.
abbrev pub there_answer : Option ℕ → Answer
there_answer None = Err NotThere
there_answer (Some place) = Ok tt

-- The tasks without the one at a place; lower ones move up.
abbrev pub without : List Item → Option ℕ → List Item
without is None = is
without is (Some place) = remove is place

-- Where the task at place k stood before the one at `taken` was taken out.
abbrev pub past : ℕ → ℕ → ℕ
past taken k = cond (nat_lt k taken) k (suc k)
