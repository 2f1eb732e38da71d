-- A run as one value. Assumes nothing.
use Rattle.std.specs.Prelude.{ℕ, ◌+◌, ◌*◌, List, replicate, Some, None, Option, slice_index, slice_index_or}
use Rattle.line.specs.Rows.{cells}
use Rattle.run.specs.declared.Job.{Job}
use Rattle.run.specs.declared.Late.{Late}
use Rattle.run.specs.declared.Play.{Play}

-- The clock; for each place the last job released there, if any, which stays with no work left when it has
-- finished; for each place and mode the longest time that a job took; and the place and mode that was late,
-- with which the run has ended.
pub record Course : Type 0 where
  pub clock : ℕ
  pub jobs : List (Option Job)
  pub worst : List ℕ
  pub late : Option (Late ℕ)

-- A run before anything has happened.
abbrev pub fresh : Course
fresh = record { clock = 0; jobs = replicate 16 None; worst = replicate 256 0; late = None }

-- The rows of longest times stand one after the other.
abbrev pub course : Play → Course
course p = record { clock = p.clock; jobs = p.jobs; worst = cells p.worst; late = p.late }

-- The last job released at a place.
abbrev pub job_at : List (Option Job) → ℕ → Option Job
job_at jobs p = slice_index_or jobs p None

-- The work that is left of a job; none where there is no job.
abbrev pub left_of : Option Job → ℕ
left_of None = 0
left_of (Some j) = j.left

-- The longest time of a place and mode: cell place × 16 + mode.
abbrev pub worst_at : List ℕ → ℕ → ℕ → ℕ
worst_at cells p i = slice_index cells (p * 16 + i)
