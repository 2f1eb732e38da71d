-- The greatest work of a walk that fits a window. Assumes nothing.
use Rattle.std.specs.Prelude.{◌≡◌, ℕ, ◌≤◌, List, [], ◌∷◌}
use Rattle.line.specs.Meaning.{Graph}
use Rattle.line.specs.Walks.{Walk, Fits, work}

-- A list of modes that is empty or begins in m.
abbrev pub Begins : ℕ → List ℕ → Type 0
Begins m [] = Unit {0}
Begins m (a ∷ r) = a ≡ m

-- A walk that fits w, and that is empty or begins in m.
pub record Fitting (G : Graph) (m w : ℕ) (l : List ℕ) : Type 0 where
  pub walk : Walk G l
  pub begins : Begins m l
  pub fits : Fits G w l

-- v is the greatest work of a walk that begins in m, or is empty, and fits w: no such walk has more work,
-- and one has just that.
pub record Greatest (G : Graph) (m w v : ℕ) : Type 0 where
  pub bound : (l : List ℕ) → Fitting G m w l → work G l ≤ v
  pub reached : (l : List ℕ) × Fitting G m w l × (work G l ≡ v)

-- v is the greatest work of any walk that fits w.
pub record Most (G : Graph) (w v : ℕ) : Type 0 where
  pub bound : (l : List ℕ) → Walk G l → Fits G w l → work G l ≤ v
  pub reached : (l : List ℕ) × Walk G l × Fits G w l × (work G l ≡ v)
