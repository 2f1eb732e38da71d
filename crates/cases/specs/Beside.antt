-- A line judged on top of another. Assumes nothing.
use Rattle.std.specs.Prelude.{ℕ, cond, List, is_ok, Ok, Err, Result, nat_lt}
use Rattle.line.specs.Meaning.{Meaning}
use Rattle.line.specs.Joins.{joined, join_answer}
use Rattle.line.specs.declared.refusal.Refusal.{Refusal}
use Rattle.line.specs.declared.refusal.Refusal.TheVariants.{TooShort}
use Rattle.response.specs.Verdicts.{judge_answer, judged_cells}
use Rattle.response.specs.declared.Verdict.{Verdict}
use Rattle.line.specs.Answers.{Answer}
use Rattle.line.specs.Meaning.{sole}
use Rattle.cases.specs.Guards.{guarded_task}
use Rattle.cases.specs.declared.guarded.Guarded.{Guarded}

-- A guarded task as a line of one task.
abbrev pub guarded_line : Guarded → Meaning
guarded_line s = sole (guarded_task s.task.cost s.task.period s.task.deadline)

-- The verdict where a check passes, else the check's refusal.
abbrev pub verdict_after : Answer → Result (Verdict ℕ) Refusal → Result (Verdict ℕ) Refusal
verdict_after (Ok u) next = next
verdict_after (Err e) next = Err e

-- What is answered over that many cells: too few are refused first, then lines that may not be joined; else it is
-- what the judge answers of the joined line.
abbrev pub beside_answer : Meaning → Meaning → ℕ → Result (Verdict ℕ) Refusal
beside_answer top low cells = cond (nat_lt cells 256) (Err TooShort) (verdict_after (join_answer top low) (judge_answer (joined top low) cells))

-- What is left of the cells: a refusal changes none; else they are as the judge leaves them.
abbrev pub beside_cells : Meaning → Meaning → List ℕ → List ℕ
beside_cells top low cells = cond (is_ok (join_answer top low)) (judged_cells (joined top low) cells) cells
