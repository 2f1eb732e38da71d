-- Many ticks in one step. Assumes nothing.
use Rattle.std.specs.Prelude.{◌≡◌, ℕ, suc, ◌+◌, ◌-◌, ◌<◌, ◌≤◌, cond, ◌&&◌, List, [], ◌∷◌, length, Some, None, Option, nat_lt, slice_set}
use Rattle.line.specs.Meaning.{Meaning}
use Rattle.run.specs.declared.Job.{Job}
use Rattle.run.specs.Course.{Course, job_at, left_of}
use Rattle.run.specs.Ticks.{idle_above, served, raised, due_at, noted, after_ticks}

-- The highest place with work left, if any.
abbrev pub busy : List (Option Job) → Option ℕ
busy os = cond (nat_lt (idle_above os) (length os)) (Some (idle_above os)) None

abbrev pub lesser : ℕ → ℕ → ℕ
lesser a b = cond (nat_lt a b) a b

-- At most n ticks, before which the job that is served does not finish.
abbrev pub unfinished : Option Job → ℕ → ℕ
unfinished o n = cond (nat_lt 0 (left_of o)) (lesser (left_of o - 1) n) n

-- At most n ticks, in which a job with work left does not become due.
abbrev pub undue : Meaning → ℕ → ℕ → Option Job → ℕ → ℕ
undue m now p None n = n
undue m now p (Some j) n = cond (nat_lt 0 j.left && nat_lt now (due_at m p j)) (lesser (due_at m p j - now - 1) n) n

abbrev pub undue_all : Meaning → ℕ → ℕ → List (Option Job) → ℕ → ℕ
undue_all m now p [] n = n
undue_all m now p (o ∷ os) n = undue_all m now (suc p) os (undue m now p o n)

-- At most n ticks in which one job runs on, or none, and nothing else happens.
abbrev pub calm : Meaning → Course → ℕ → ℕ
calm m s n = undue_all m s.clock 0 s.jobs (unfinished (job_at s.jobs (idle_above s.jobs)) n)

-- The run after the job of a place got n units.
abbrev pub given_at : ℕ → ℕ → Course → Course
given_at p n s = record { clock = s.clock; jobs = slice_set s.jobs p (served n (job_at s.jobs p)); worst = s.worst; late = s.late }

-- The run with the time that a job of a place and mode took.
abbrev pub raised_at : ℕ → ℕ → ℕ → Course → Course
raised_at p i took s = record { clock = s.clock; jobs = s.jobs; worst = raised p i took s.worst; late = s.late }

-- The run n ticks on, in which the job that is served ran on.
abbrev pub ran_on : ℕ → Course → Course
ran_on n s =
    let p = idle_above s.jobs in
    record { clock = s.clock + n; jobs = slice_set s.jobs p (served n (job_at s.jobs p)); worst = s.worst; late = s.late }

-- The run after the place served got its unit in the tick that ends at the present clock.
abbrev pub worked_at : ℕ → Course → Course
worked_at p s = record { clock = s.clock; jobs = slice_set s.jobs p (served 1 (job_at s.jobs p)); worst = noted s.clock p (job_at s.jobs p) s.worst; late = s.late }

-- One to n ticks were done at once, and the rest of the n ticks lead to where all of them do.
pub record Strides (m : Meaning) (n : ℕ) (s t : Course) : Type 0 where
  pub on : s.clock < t.clock
  pub within : t.clock ≤ s.clock + n
  pub same : after_ticks m n s ≡ after_ticks m (s.clock + n - t.clock) t
