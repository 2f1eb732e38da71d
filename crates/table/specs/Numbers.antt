-- The ranges of a task's number and place. Assumes nothing.
use Rattle.std.specs.Prelude.{ℕ, cond, ◌||◌, Ok, Err, ◌==◌, nat_lt}
use Rattle.line.specs.declared.refusal.Refusal.TheVariants.{OutOfRange}
use Rattle.line.specs.Answers.{Answer}

-- A task's number is from 1 to 999, and a place from 0 to 15.
abbrev pub task_numbers : ℕ → ℕ → Answer
task_numbers number place = cond (number == 0 || (nat_lt 999 number || nat_lt 15 place)) (Err OutOfRange) (Ok tt)
