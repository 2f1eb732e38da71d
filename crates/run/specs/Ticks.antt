-- One tick, and n ticks one by one. Assumes nothing.
use Rattle.std.specs.Prelude.{ℕ, zero, suc, ◌+◌, ◌-◌, ◌*◌, max, cond, ◌&&◌, List, [], ◌∷◌, is_some, Some, None, Option, ◌==◌, nat_lt, slice_set}
use Rattle.line.specs.Meaning.{Meaning, task_at, deadline_in}
use Rattle.run.specs.declared.Job.{Job}
use Rattle.run.specs.declared.Late.{Late}
use Rattle.run.specs.Course.{Course, job_at, left_of, worst_at}

-- How many places, from the highest on, have no work left: the next one is served.
abbrev pub idle_above : List (Option Job) → ℕ
idle_above [] = 0
idle_above (o ∷ os) = cond (nat_lt 0 (left_of o)) 0 (suc (idle_above os))

-- A job after so many units more of its work.
abbrev pub less : ℕ → Job → Job
less n j = record { mode = j.mode; release = j.release; left = j.left - n }

abbrev pub served : ℕ → Option Job → Option Job
served n None = None
served n (Some j) = Some (less n j)

-- The longest times once a job of a place and mode has taken so many ticks. There are cells for 16 modes.
abbrev pub raised : ℕ → ℕ → ℕ → List ℕ → List ℕ
raised p i took cells = cond (nat_lt i 16) (slice_set cells (p * 16 + i) (max (worst_at cells p i) took)) cells

-- The longest times after the job served at a place got its unit in the tick that ends at `now`: one whose last unit
-- it was has finished.
abbrev pub noted : ℕ → ℕ → Option Job → List ℕ → List ℕ
noted now p None cells = cells
noted now p (Some j) cells = cond (j.left == 1) (raised p j.mode (now - j.release) cells) cells

-- The clock at which a job of a place is due: its release plus its deadline.
abbrev pub due_at : Meaning → ℕ → Job → ℕ
due_at m p j = j.release + deadline_in (task_at m p) j.mode

-- The lateness of a job of a place at the clock `now`: work is left, and it is due.
abbrev pub late_in : Meaning → ℕ → ℕ → Option Job → Option (Late ℕ)
late_in m now p None = None
late_in m now p (Some j) = cond (nat_lt 0 j.left && due_at m p j == now) (Some (record { task = p; mode = j.mode })) None

abbrev pub or_else : Option (Late ℕ) → Option (Late ℕ) → Option (Late ℕ)
or_else None later = later
or_else (Some l) later = Some l

-- The highest place that is late, of the places from p on.
abbrev pub first_late : Meaning → ℕ → ℕ → List (Option Job) → Option (Late ℕ)
first_late m now p [] = None
first_late m now p (o ∷ os) = or_else (late_in m now p o) (first_late m now (suc p) os)

-- One tick: the highest place with work left gets one unit, the clock moves, a job without work left has finished,
-- and only then the highest place that is due with work left is late.
abbrev pub ticked : Meaning → Course → Course
ticked m s =
    let p = idle_above s.jobs in
    let now = s.clock + 1 in
    let jobs = slice_set s.jobs p (served 1 (job_at s.jobs p)) in
    record { clock = now; jobs = jobs; worst = noted now p (job_at s.jobs p) s.worst; late = first_late m now 0 jobs }

-- n ticks, one by one, and none after a late one.
unfoldable pub after_ticks : Meaning → ℕ → Course → Course
after_ticks m zero s = s
after_ticks m (suc n) s = cond (is_some s.late) s (after_ticks m n (ticked m s))
