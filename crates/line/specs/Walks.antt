-- Walks through the modes of a task. Assumes nothing.
use Rattle.std.specs.Prelude.{◌≡◌, ℕ, ◌+◌, ◌<◌, true, List, [], ◌∷◌, is_some}
use Rattle.std.specs.Option.{unwrap_or}
use Rattle.line.specs.Meaning.{Graph}

-- A walk is a list of modes in which each has a gap from the one before; it may begin in any mode.
abbrev pub Walk : Graph → List ℕ → Type 0
Walk G [] = Unit {0}
Walk G (m ∷ []) = m < G.modes
Walk G (m ∷ (b ∷ r)) = (m < G.modes) × (is_some (G.gap m b) ≡ true) × Walk G (b ∷ r)

-- What its gaps add up to.
abbrev pub span : Graph → List ℕ → ℕ
span G [] = 0
span G (m ∷ []) = 0
span G (m ∷ (b ∷ r)) = unwrap_or (G.gap m b) 0 + span G (b ∷ r)

-- The empty walk fits every window; another one a window of w ticks when its gaps add up to less than w.
abbrev pub Fits : Graph → ℕ → List ℕ → Type 0
Fits G w [] = Unit {0}
Fits G w (m ∷ r) = span G (m ∷ r) < w

-- Its work is the sum of its costs.
abbrev pub work : Graph → List ℕ → ℕ
work G [] = 0
work G (m ∷ r) = G.cost m + work G r
