-- What a sporadic task means. Assumes nothing.
use Rattle.std.specs.Prelude.{ℕ, ◌+◌, ◌-◌, ◌*◌, ◌/◌, cond, ◌||◌, Some, Ok, Err, ◌==◌, nat_lt}
use Rattle.line.specs.declared.refusal.Refusal.TheVariants.{OutOfRange, CostAboveDeadline, DeadlineAbovePeriod}
use Rattle.line.specs.declared.change.Change.{Change}
use Rattle.line.specs.declared.change.Change.TheVariants.{Lower, Widen, Cut}
use Rattle.line.specs.Answers.{Answer}
use Rattle.line.specs.Meaning.{Task}

-- The releases one period apart that a window of w ticks can hold: w ÷ period, rounded up.
abbrev pub releases : ℕ → ℕ → ℕ
releases w period = (w + (period - 1)) / period

-- A sporadic task of that cost, period and deadline: one mode, which follows itself after a period.
abbrev pub sporadic_task : ℕ → ℕ → ℕ → Task
sporadic_task cost period deadline = record {
  graph = record { modes = 1; cost = λ _. cost; deadline = λ _. deadline; gap = λ _ _. Some period };
  most = λ w. cost * releases w period;
}

-- Cost and deadline are from 1 to 1,000 and the period is from 1 to 100,000; the cost is at most the deadline,
-- and the deadline at most the period.
abbrev pub sporadic_answer : ℕ → ℕ → ℕ → Answer
sporadic_answer cost period deadline =
    cond (cost == 0 || (nat_lt 1000 cost || (period == 0 || (nat_lt 100000 period || (deadline == 0 || nat_lt 1000 deadline))))) (Err OutOfRange)
    (cond (nat_lt deadline cost) (Err CostAboveDeadline)
    (cond (nat_lt period deadline) (Err DeadlineAbovePeriod) (Ok tt)))

-- The cost after a change: a smaller one, or the same.
abbrev pub changed_cost : Change → ℕ → ℕ
changed_cost (Lower mode cost) was = cost
changed_cost (Widen from to gap) was = was
changed_cost (Cut from to) was = was

-- The period after a change: its only link is the one from mode 0 to itself.
abbrev pub changed_period : Change → ℕ → ℕ
changed_period (Lower mode cost) was = was
changed_period (Widen from to gap) was = gap
changed_period (Cut from to) was = was
