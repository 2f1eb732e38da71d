-- What a line that asks for no more than another keeps of its bounds and its verdict. Assumes nothing.
use Rattle.std.specs.Prelude.{◌≡◌, ℕ, ◌<◌, ◌≤◌}
use Rattle.line.specs.Meaning.{Meaning}
use Rattle.line.specs.Lighter.{EasedLine}
use Rattle.response.specs.declared.Verdict.TheVariants.{Fits}
use Rattle.response.specs.Bounds.{Bound}
use Rattle.response.specs.Verdicts.{verdict_of}

-- Each mode of m that had a bound in n, at the place that `from` gives, has one in m, and it is no greater.
abbrev pub BoundsEase : (ℕ → ℕ) → Meaning → Meaning → Type 0
BoundsEase from m n = (k i w : ℕ) → k < m.count → Bound n (from k) i w → (v : ℕ) × Bound m k i v × (v ≤ w)

-- If n fits, so does m.
abbrev pub FitsStill : Meaning → Meaning → Type 0
FitsStill m n = verdict_of n ≡ Fits → verdict_of m ≡ Fits

-- Every line that asks for no more than n has no greater bounds, and fits if n does.
abbrev pub EasesBelow : Meaning → Type 0
EasesBelow n = (from : ℕ → ℕ) (m : Meaning) → EasedLine from m n → BoundsEase from m n × FitsStill m n
