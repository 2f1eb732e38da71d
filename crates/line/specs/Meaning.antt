-- What a line means: one value, from which its questions answer. Assumes nothing.
use Rattle.std.specs.Prelude.{ℕ, cond, None, Option, nat_le, nat_lt}

-- The modes of a task, numbered from 0. A mode has a cost, the most ticks that one job in it runs,
-- and a deadline in ticks from release. Between two modes, in that order, there is a least gap
-- after which the second may follow the first, or there is none.
pub record Graph : Type 0 where
  pub modes : ℕ
  pub cost : ℕ → ℕ
  pub deadline : ℕ → ℕ
  pub gap : ℕ → ℕ → Option ℕ

-- A task: its graph of modes, and what it is said to ask for, at most, in a window of ticks.
pub record Task : Type 0 where
  pub graph : Graph
  pub most : ℕ → ℕ

-- A line: how many tasks, and the task at each place. Place 0 has the highest priority.
pub record Meaning : Type 0 where
  pub count : ℕ
  pub at : ℕ → Task

-- A line of one task.
abbrev pub sole : Task → Meaning
sole t = record { count = 1; at = λ _. t }

-- What stands past the last place: nothing.
abbrev pub nowhere : Task
nowhere = record { graph = record { modes = 0; cost = λ _. 0; deadline = λ _. 0; gap = λ _ _. None }; most = λ _. 0 }

-- The task at a place, and past the last one nothing.
abbrev pub task_at : Meaning → ℕ → Task
task_at m k = cond (nat_lt k m.count) (m.at k) nowhere

-- A graph's numbers in their ranges, else 0, and for a gap none.
abbrev pub cost_of : Graph → ℕ → ℕ
cost_of G i = cond (nat_lt i G.modes) (G.cost i) 0

abbrev pub gap_of : Graph → ℕ → ℕ → Option ℕ
gap_of G i j = cond (nat_lt i G.modes) (cond (nat_lt j G.modes) (G.gap i j) None) None

-- What the questions answer of one task: its numbers in their ranges, else 0, and for a gap none.
abbrev pub modes_in : Task → ℕ
modes_in t = t.graph.modes

abbrev pub cost_in : Task → ℕ → ℕ
cost_in t i = cond (nat_lt i t.graph.modes) (t.graph.cost i) 0

abbrev pub deadline_in : Task → ℕ → ℕ
deadline_in t i = cond (nat_lt i t.graph.modes) (t.graph.deadline i) 0

abbrev pub gap_in : Task → ℕ → ℕ → Option ℕ
gap_in t i j = cond (nat_lt i t.graph.modes) (cond (nat_lt j t.graph.modes) (t.graph.gap i j) None) None

abbrev pub most_in : Task → ℕ → ℕ
most_in t w = cond (nat_le w 1000) (t.most w) 0
