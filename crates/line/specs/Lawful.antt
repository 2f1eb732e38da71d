-- The limits and the laws of a line. Assumes nothing.
use Rattle.std.specs.Prelude.{◌≡◌, ℕ, ◌<◌, ◌≤◌, List, Some}
use Rattle.line.specs.Meaning.{Graph, Task, Meaning}
use Rattle.line.specs.Walks.{Walk, Fits, work}

-- The limits of a graph: 1 to 16 modes, 1 ≤ cost ≤ deadline ≤ 1,000, and each gap that leaves a mode
-- is at least its deadline and at most 100,000.
pub record GraphLaws (G : Graph) : Type 0 where
  pub some_mode : 1 ≤ G.modes
  pub few_modes : G.modes ≤ 16
  pub some_cost : (i : ℕ) → i < G.modes → 1 ≤ G.cost i
  pub cost_fits : (i : ℕ) → i < G.modes → G.cost i ≤ G.deadline i
  pub deadline_fits : (i : ℕ) → i < G.modes → G.deadline i ≤ 1000
  pub gap_least : (i j g : ℕ) → i < G.modes → j < G.modes → G.gap i j ≡ Some g → G.deadline i ≤ g
  pub gap_most : (i j g : ℕ) → i < G.modes → j < G.modes → G.gap i j ≡ Some g → g ≤ 100000

-- The laws of a task: the limits, and `most` of a window is at least the work of every walk that fits it,
-- and at most 1,000,000.
pub record TaskLaws (t : Task) : Type 0 where
  pub limits : GraphLaws t.graph
  pub most_covers : (w : ℕ) → w ≤ 1000 → (l : List ℕ) → Walk t.graph l → Fits t.graph w l → work t.graph l ≤ t.most w
  pub most_fits : (w : ℕ) → w ≤ 1000 → t.most w ≤ 1000000

-- A line has at most 16 tasks, and each keeps the laws.
pub record Lawful (m : Meaning) : Type 0 where
  pub few : m.count ≤ 16
  pub each : (k : ℕ) → k < m.count → TaskLaws (m.at k)
