-- What every list of calls on a bench keeps. Assumes nothing.
use Rattle.std.specs.Prelude.{◌≡◌, ℕ, ◌≤◌, List, None, Some, Ok}
use Rattle.response.specs.declared.Verdict.TheVariants.{Fits}
use Rattle.run.specs.declared.Advance.{Advance}
use Rattle.run.specs.Course.{Course}
use Rattle.bench.specs.declared.bench.Bench.{Bench}
use Rattle.bench.specs.State.{State, state, judgement, after_judge, bound_answer}
use Rattle.bench.specs.Runs.{advance_answer, worst_answer}
use Rattle.history.specs.Histories.{Made, Leads, OnlyEases}

-- The open run, if any, is not late; no advance that comes next reports a late job, whatever its ticket and its number
-- of ticks; and no job that finished in the run took longer than the bound shown for its task and mode.
pub record OnTime (s : State) : Type 0 where
  pub on_time : (c : Course) → s.run ≡ Some c → c.late ≡ None
  pub reports : (ticket ticks : ℕ) (a : Advance ℕ) → advance_answer s ticket ticks ≡ Ok a → a.late ≡ None
  pub in_time : (ticket number mode took bound : ℕ) → worst_answer s ticket number mode ≡ Ok took → bound_answer s number mode ≡ Ok bound → took ≤ bound

-- After every list of calls, in any order and number, refused ones too: where the verdict reads fits, all is on time. So
-- it is after each part of the list from its start; when the table was judged, before the run began or in its midst,
-- makes no difference.
abbrev pub InTime : Bench → Type 0
InTime new = (calls : List Made) (b : Bench) → Leads new calls b → (state b).verdict ≡ Some Fits → OnTime (state b)

-- A judge of the later table t answers fits, and each mode of a task that is there had a bound on s, and has no greater
-- one now.
pub record NoWorse (t s : State) : Type 0 where
  pub fits : judgement t ≡ Fits
  pub bounds : (number mode now : ℕ) → bound_answer (after_judge t) number mode ≡ Ok now → (was : ℕ) × (bound_answer (after_judge s) number mode ≡ Ok was) × (now ≤ was)

-- After every list of calls at whose end a judge answers fits, and every list of calls from there among which of all
-- edits only lower, widen, cut and take were accepted, a judge answers fits again, with no greater bound.
abbrev pub StaysFit : Bench → Type 0
StaysFit new = (before after : List Made) (a z : Bench) → Leads new before a → judgement (state a) ≡ Fits → OnlyEases after → Leads a after z → NoWorse (state z) (state a)
