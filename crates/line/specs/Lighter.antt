-- Graphs, tasks and lines that ask for no more than others. Assumes nothing.
use Rattle.std.specs.Prelude.{◌≡◌, ℕ, ◌<◌, ◌≤◌, Some}
use Rattle.line.specs.Meaning.{Graph, Task, Meaning}

-- H asks for no more than G: it has the same modes, no mode costs more, and each link of H is one of G,
-- with a gap that is no shorter.
pub record Lighter (H G : Graph) : Type 0 where
  pub same : H.modes ≡ G.modes
  pub cheaper : (m : ℕ) → H.cost m ≤ G.cost m
  pub rarer : (a b h : ℕ) → H.gap a b ≡ Some h → (g : ℕ) × (G.gap a b ≡ Some g) × (g ≤ h)

-- H asks for no more than G, and its modes have the same deadlines.
pub record Lightened (H G : Graph) : Type 0 where
  pub lighter : Lighter H G
  pub due : (m : ℕ) → H.deadline m ≡ G.deadline m

-- A task asks for no more than another: its graph does not, with the same deadlines, and its `most` is no greater at
-- any window.
pub record Eased (t u : Task) : Type 0 where
  pub graph : Lightened t.graph u.graph
  pub most : (w : ℕ) → w ≤ 1000 → t.most w ≤ u.most w

-- A line asks for no more than another: each of its tasks is one of the other's, at the place that `from` gives, and
-- asks for no more than that one does; and they stand in the same order.
pub record EasedLine (from : ℕ → ℕ) (m n : Meaning) : Type 0 where
  pub there : (k : ℕ) → k < m.count → from k < n.count
  pub order : (j k : ℕ) → j < k → k < m.count → from j < from k
  pub task : (k : ℕ) → k < m.count → Eased (m.at k) (n.at (from k))
