-- What each call on a run answers, and what it makes of the run. Assumes nothing.
use Rattle.std.specs.Prelude.{ℕ, ◌+◌, ◌-◌, Bool, true, false, cond, ◌||◌, List, [], ◌∷◌, is_some, is_ok, Some, None, Ok, Err, Option, Result, ◌==◌, nat_le, nat_lt, slice_set}
use Rattle.line.specs.declared.refusal.Refusal.{Refusal}
use Rattle.line.specs.declared.refusal.Refusal.TheVariants.{OutOfRange, NotThere, CostAboveMode, NotYet, EndedLate, PastClock}
use Rattle.line.specs.Meaning.{Meaning, task_at, modes_in, cost_in, gap_in}
use Rattle.run.specs.declared.Job.{Job}
use Rattle.run.specs.declared.Advance.{Advance}
use Rattle.run.specs.Course.{Course, job_at, worst_at}
use Rattle.run.specs.Ticks.{after_ticks}

-- Whether a release may follow one at the clock `from`, by the gap between the two modes, if there is one.
abbrev pub passed : Option ℕ → ℕ → ℕ → Bool
passed None from now = false
passed (Some gap) from now = nat_le (from + gap) now

-- Whether a job in a mode may be released at a place whose last job is given.
abbrev pub ready : Meaning → ℕ → ℕ → ℕ → Option Job → Bool
ready m p i now None = true
ready m p i now (Some j) = passed (gap_in (task_at m p) j.mode i) j.release now

-- The numbers of a job: a mode from 0 to 15, and a cost from 1 to 1,000.
abbrev pub job_numbers : ℕ → ℕ → Result (Unit {0}) Refusal
job_numbers i c = cond (nat_le 16 i || c == 0 || nat_lt 1000 c) (Err OutOfRange) (Ok tt)

-- An advance is by 1 to 1,000 ticks.
abbrev pub tick_numbers : ℕ → Result (Unit {0}) Refusal
tick_numbers n = cond (n == 0 || nat_lt 1000 n) (Err OutOfRange) (Ok tt)

-- What a release answers. The refusals stand by rising number.
abbrev pub release_answer : Meaning → Course → ℕ → ℕ → ℕ → Result (Unit {0}) Refusal
release_answer m s p i c =
    cond (nat_le 16 p || nat_le 16 i || c == 0 || nat_lt 1000 c) (Err OutOfRange)
    (cond (nat_le (modes_in (task_at m p)) i) (Err NotThere)
    (cond (nat_lt (cost_in (task_at m p) i) c) (Err CostAboveMode)
    (cond (ready m p i s.clock (job_at s.jobs p))
    (cond (is_some s.late) (Err EndedLate) (Ok tt))
    (Err NotYet))))

-- A job released at the present clock.
abbrev pub released : Course → ℕ → ℕ → ℕ → Course
released s p i c = record { clock = s.clock; jobs = slice_set s.jobs p (Some (record { mode = i; release = s.clock; left = c })); worst = s.worst; late = s.late }

abbrev pub after_release : Meaning → Course → ℕ → ℕ → ℕ → Course
after_release m s p i c = cond (is_ok (release_answer m s p i c)) (released s p i c) s

-- Whether the run may advance by n ticks.
abbrev pub may_advance : Course → ℕ → Result (Unit {0}) Refusal
may_advance s n =
    cond (n == 0 || nat_lt 1000 n) (Err OutOfRange)
    (cond (is_some s.late) (Err EndedLate)
    (cond (nat_lt 1000000 (s.clock + n)) (Err PastClock) (Ok tt)))

-- What an advance tells: the ticks done, and the late place and mode, if any.
abbrev pub told_from : Course → Course → Advance ℕ
told_from s t = record { ticks = t.clock - s.clock; late = t.late }

abbrev pub unless : {A : Type 0} → Result (Unit {0}) Refusal → A → Result A Refusal
unless (Ok _) x = Ok x
unless (Err e) x = Err e

abbrev pub advance_answer : Meaning → Course → ℕ → Result (Advance ℕ) Refusal
advance_answer m s n = unless (may_advance s n) (told_from s (after_ticks m n s))

abbrev pub after_advance : Meaning → Course → ℕ → Course
after_advance m s n = cond (is_ok (may_advance s n)) (after_ticks m n s) s

-- The longest time of a place and mode of the line; 0 before a job has finished.
abbrev pub worst_answer : Meaning → Course → ℕ → ℕ → Result ℕ Refusal
worst_answer m s p i =
    cond (nat_le 16 p || nat_le 16 i) (Err OutOfRange)
    (cond (nat_le (modes_in (task_at m p)) i) (Err NotThere) (Ok (worst_at s.worst p i)))

-- A call on a run that can change it.
pub data Call : Type 0 where
  release : ℕ → ℕ → ℕ → Call
  advance : ℕ → Call

abbrev pub after_call : Meaning → Call → Course → Course
after_call m (release p i c) s = after_release m s p i c
after_call m (advance n) s = after_advance m s n

-- A list of calls, one after the other, refused ones too.
abbrev pub after_calls : Meaning → List Call → Course → Course
after_calls m [] s = s
after_calls m (c ∷ cs) s = after_calls m cs (after_call m c s)
