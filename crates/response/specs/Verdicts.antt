-- The verdict on a line, and the bounds that are shown. Places are judged in their order, and the modes of a
-- place in theirs. Assumes nothing.
use Rattle.std.specs.Prelude.{ℕ, zero, suc, ◌/◌, ◌%◌, Bool, true, false, cond, ◌&&◌, ◌||◌, List, ◌++◌, map, length, drop, Some, None, Ok, Err, Option, Result, ◌==◌, nat_lt}
use Rattle.std.specs.List.{range_with_len}
use Rattle.std.specs.Option.{unwrap_or}
use Rattle.line.specs.Meaning.{Meaning, task_at, modes_in}
use Rattle.line.specs.declared.refusal.Refusal.{Refusal}
use Rattle.line.specs.declared.refusal.Refusal.TheVariants.{TooShort}
use Rattle.response.specs.declared.Verdict.{Verdict}
use Rattle.response.specs.declared.Verdict.TheVariants.{Fits, Over}
use Rattle.response.specs.Bounds.{first_from, bound_of}

-- Whether a bound is missing.
abbrev pub missing : Option ℕ → Bool
missing None = true
missing (Some w) = false

-- Whether mode i of place p has no bound.
abbrev pub lacks : Meaning → ℕ → ℕ → Bool
lacks m p i = missing (bound_of m p i)

-- The first mode of a place that has no bound.
unfoldable pub over_in : Meaning → ℕ → Option ℕ
over_in m p = first_from (lacks m p) (modes_in (task_at m p)) 0

-- The first place and mode without a bound, where that of place p is known: there, or else as later places have it.
abbrev pub over_or : ℕ → Option ℕ → Option (ℕ × ℕ) → Option (ℕ × ℕ)
over_or p None later = later
over_or p (Some i) later = Some (p, i)

-- The first place and mode without a bound, of n places from p on.
abbrev pub over_from : Meaning → ℕ → ℕ → Option (ℕ × ℕ)
over_from m zero p = None
over_from m (suc n) p = over_or p (over_in m p) (over_from m n (suc p))

-- The first place and mode of a line without a bound.
unfoldable pub first_over : Meaning → Option (ℕ × ℕ)
first_over m = over_from m m.count 0

-- The verdict that such a place and mode mean, or that there is none.
abbrev pub as_verdict : Option (ℕ × ℕ) → Verdict ℕ
as_verdict None = Fits
as_verdict (Some x) = Over x.0 x.1

-- The verdict on a line: over at the first place and mode without a bound, or it fits.
unfoldable pub verdict_of : Meaning → Verdict ℕ
verdict_of m = as_verdict (first_over m)

-- Whether mode i of place p comes before the mode that the verdict names; where it names none, all do.
abbrev pub passes : Verdict ℕ → ℕ → ℕ → Bool
passes Fits p i = true
passes (Over q j) p i = nat_lt p q || (p == q && nat_lt i j)

-- The bound that is shown of a mode: the one found before the verdict fell, else 0. Where the line has no such
-- mode there is no bound, so 0 is shown too.
abbrev pub shown_bound : Meaning → ℕ → ℕ → ℕ
shown_bound m p i = cond (passes (verdict_of m) p i) (unwrap_or (bound_of m p i) 0) 0

-- The 256 cells that are shown: mode i of place p has cell p × 16 + i.
unfoldable pub bound_cells : Meaning → List ℕ
bound_cells m = map (λ n. shown_bound m (n / 16) (n % 16)) (range_with_len 0 256)

-- What the judge answers over that many cells.
abbrev pub judge_answer : Meaning → ℕ → Result (Verdict ℕ) Refusal
judge_answer m cells = cond (nat_lt cells 256) (Err TooShort) (Ok (verdict_of m))

-- What the judge leaves of the cells: too few stay as they are; else the first 256 show the bounds, and later ones stay.
abbrev pub judged_cells : Meaning → List ℕ → List ℕ
judged_cells m cells = cond (nat_lt (length cells) 256) cells (bound_cells m ++ drop 256 cells)
