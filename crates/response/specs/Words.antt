-- A verdict in words, as it is printed. Assumes nothing.
use Rattle.std.specs.Prelude.{ℕ, List, ◌++◌, codes, decimal}
use Rattle.response.specs.declared.Verdict.{Verdict}
use Rattle.response.specs.declared.Verdict.TheVariants.{Fits, Over}

-- `fits`, or `over` with the number of the first task and its first mode without a bound.
abbrev pub verdict_words : Verdict ℕ → List ℕ
verdict_words Fits = codes "fits"
verdict_words (Over task mode) = codes "over " ++ (decimal task ++ (codes " " ++ decimal mode))
