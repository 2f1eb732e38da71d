-- What show answers and leaves on a bench. Assumes nothing.
use Rattle.std.specs.Prelude.{◌≡◌, ℕ, cond, ◌||◌, List, length, is_some, Some, None, Ok, Err, Option, Result, nat_lt}
use Rattle.line.specs.declared.refusal.Refusal.{Refusal}
use Rattle.line.specs.declared.refusal.Refusal.TheVariants.{OutOfRange, TooShort, NotThere}
use Rattle.line.specs.Answers.{Answer, and_then}
use Rattle.line.specs.Shows.{Shown}
use Rattle.table.specs.Numbers.{task_numbers}
use Rattle.table.specs.Items.{Item, line_of, place_of}
use Rattle.table.specs.Tables.{table_leaves}
use Rattle.bench.specs.State.{State}

-- show: the number is from 1 to 999 and the window from 0 to 1,000, sheet and list are long enough, and the task is
-- there.
abbrev pub show_answer : State → ℕ → ℕ → ℕ → ℕ → Answer
show_answer s number window sheet list =
    and_then (task_numbers number 0)
    (cond (nat_lt 1000 window) (Err OutOfRange)
    (cond (nat_lt sheet 16016 || nat_lt list 1000) (Err TooShort)
    (cond (is_some (place_of number s.desk.tasks)) (Ok tt) (Err NotThere))))

-- The list begins with a walk of n modes of the task at a place, which fits the window and has the most work, its later
-- cells stay, and the sheet is as a task of its make leaves it.
abbrev pub WalkShown : List Item → Option ℕ → ℕ → ℕ → List ℕ → List ℕ → List ℕ → List ℕ → Type 0
WalkShown is None window n sheet sheet' list list' = ⊥
WalkShown is (Some place) window n sheet sheet' list list' = Shown ((line_of is).at place) window n list list' × table_leaves is place sheet sheet'

-- What show answers and leaves: a walk is shown and its length answered, or it is refused and changes nothing.
abbrev pub ShowDone : State → ℕ → ℕ → List ℕ → List ℕ → List ℕ → List ℕ → Result ℕ Refusal → Type 0
ShowDone s number window sheet sheet' list list' (Ok n) =
    (show_answer s number window (length sheet) (length list) ≡ Ok tt) × WalkShown s.desk.tasks (place_of number s.desk.tasks) window n sheet sheet' list list'
ShowDone s number window sheet sheet' list list' (Err e) =
    (show_answer s number window (length sheet) (length list) ≡ Err e) × (sheet' ≡ sheet) × (list' ≡ list)
