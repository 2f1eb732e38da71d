-- What a verdict promises of runs. Assumes nothing.
use Rattle.std.specs.Prelude.{◌≡◌, ℕ, ◌≤◌, List, None, Ok}
use Rattle.line.specs.Meaning.{Meaning}
use Rattle.run.specs.declared.Advance.{Advance}
use Rattle.run.specs.Course.{Course, fresh, worst_at}
use Rattle.run.specs.Calls.{Call, advance_answer, after_calls}
use Rattle.response.specs.Bounds.{Bound}

-- A run is safe: it is not late, no job that finished took longer than the bound of its mode, and an advance that
-- comes next reports no late job.
pub record Safe (m : Meaning) (s : Course) : Type 0 where
  pub on_time : s.late ≡ None
  pub in_time : (p i w : ℕ) → Bound m p i w → worst_at s.worst p i ≤ w
  pub reports : (n : ℕ) (a : Advance ℕ) → advance_answer m s n ≡ Ok a → a.late ≡ None

-- Every list of releases and advances from a new run, refused ones too, leaves a safe run; so does each part of the
-- list from its start, and so no advance among them reports a late job.
abbrev pub NeverLate : Meaning → Type 0
NeverLate m = (cs : List Call) → Safe m (after_calls m cs fresh)
