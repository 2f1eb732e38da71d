-- The rules of a run, said of the run before and after: which place is served in a tick, when a job finishes, which
-- place is late, what a release and an advance do, and so which runs there are. Assumes nothing.
use Rattle.std.specs.Prelude.{◌≡◌, ℕ, suc, ◌+◌, ◌-◌, ◌<◌, ◌≤◌, max, List, [], ◌∷◌, length, Some, None, Option, ◌≢◌}
use Rattle.line.specs.Meaning.{Meaning, task_at, modes_in, cost_in, deadline_in, gap_in}
use Rattle.run.specs.declared.Job.{Job}
use Rattle.run.specs.declared.Late.{Late}
use Rattle.run.specs.Course.{Course, fresh, job_at, worst_at}
use Rattle.run.specs.Ticks.{ticked}
use Rattle.run.specs.Calls.{Call, release, advance, after_calls}

-- A run has 16 places and a longest time for each place and each of 16 modes.
pub record Whole (s : Course) : Type 0 where
  pub places : length s.jobs ≡ 16
  pub times : length s.worst ≡ 256
  pub modes : (p : ℕ) (j : Job) → job_at s.jobs p ≡ Some j → j.mode < 16

-- Place p is served with its job j: work is left there, and none at a higher place.
pub record Served (s : Course) (p : ℕ) (j : Job) : Type 0 where
  pub here : job_at s.jobs p ≡ Some j
  pub some : 0 < j.left
  pub above : (q : ℕ) (k : Job) → q < p → job_at s.jobs q ≡ Some k → k.left ≡ 0

-- The job j of place p finishes in the next tick: it is served, and one unit of its work is left.
pub record Finishes (s : Course) (p : ℕ) (j : Job) : Type 0 where
  pub served : Served s p j
  pub last : j.left ≡ 1

-- The job j of place p misses its deadline at the clock `now`: it is due with work left.
pub record Misses (m : Meaning) (now : ℕ) (jobs : List (Option Job)) (p : ℕ) (j : Job) : Type 0 where
  pub here : job_at jobs p ≡ Some j
  pub some : 0 < j.left
  pub due : j.release + deadline_in (task_at m p) j.mode ≡ now

-- The late place is the highest one whose job misses its deadline.
pub record Latest (m : Meaning) (now : ℕ) (jobs : List (Option Job)) (l : Late ℕ) : Type 0 where
  pub job : Job
  pub misses : Misses m now jobs l.task job
  pub mode : job.mode ≡ l.mode
  pub above : (q : ℕ) (k : Job) → q < l.task → Misses m now jobs q k → ⊥

-- Which place is late at the clock `now`, if any is.
abbrev pub LateNow : Meaning → ℕ → List (Option Job) → Option (Late ℕ) → Type 0
LateNow m now jobs None = (p : ℕ) (j : Job) → Misses m now jobs p j → ⊥
LateNow m now jobs (Some l) = Latest m now jobs l

-- One tick takes the run s to t: the clock moves by one; the job that is served has one unit less, and every other
-- one stays; a job that finishes has taken the clock minus its release, and the longest time of each place and mode
-- is kept; and the run is late with the jobs as they then are.
pub record Tick (m : Meaning) (s t : Course) : Type 0 where
  pub clock : t.clock ≡ s.clock + 1
  pub places : length t.jobs ≡ length s.jobs
  pub works : (p : ℕ) (j : Job) → Served s p j → job_at t.jobs p ≡ Some (record { mode = j.mode; release = j.release; left = j.left - 1 })
  pub rests : (p : ℕ) → ((j : Job) → Served s p j → ⊥) → job_at t.jobs p ≡ job_at s.jobs p
  pub times : length t.worst ≡ length s.worst
  pub ends : (p : ℕ) (j : Job) → Finishes s p j → worst_at t.worst p j.mode ≡ max (worst_at s.worst p j.mode) (t.clock - j.release)
  pub keeps : (p i : ℕ) → i < 16 → ((j : Job) → Finishes s p j → j.mode ≢ i) → worst_at t.worst p i ≡ worst_at s.worst p i
  pub late : LateNow m t.clock t.jobs t.late

-- n ticks take s to t: none after a late one.
pub data Passes (m : Meaning) : ℕ → Course → Course → Type 0 where
  over : {s : Course} → Passes m 0 s s
  ended : {n : ℕ} {s : Course} {l : Late ℕ} → s.late ≡ Some l → Passes m (suc n) s s
  tick : {n : ℕ} {s t u : Course} → s.late ≡ None → Tick m s t → Passes m n t u → Passes m (suc n) s u

-- A job of cost c in mode i may be released at place p: the line has the mode and allows the cost, there is a gap
-- from the place's last job, if any, which is over, and the run has not ended.
pub record MayRelease (m : Meaning) (s : Course) (p i c : ℕ) : Type 0 where
  pub place : p < 16
  pub mode : i < 16
  pub there : i < modes_in (task_at m p)
  pub some : 1 ≤ c
  pub few : c ≤ 1000
  pub cost : c ≤ cost_in (task_at m p) i
  pub apart : (j : Job) → job_at s.jobs p ≡ Some j → (g : ℕ) × (gap_in (task_at m p) j.mode i ≡ Some g) × (j.release + g ≤ s.clock)
  pub on : s.late ≡ None

-- The release takes s to t: the place has the new job, and all else stays.
pub record Release (s : Course) (p i c : ℕ) (t : Course) : Type 0 where
  pub clock : t.clock ≡ s.clock
  pub places : length t.jobs ≡ length s.jobs
  pub here : job_at t.jobs p ≡ Some (record { mode = i; release = s.clock; left = c })
  pub rests : (q : ℕ) → (q ≢ p) → job_at t.jobs q ≡ job_at s.jobs q
  pub worst : t.worst ≡ s.worst
  pub late : t.late ≡ s.late

-- The run may advance by n ticks.
pub record MayAdvance (s : Course) (n : ℕ) : Type 0 where
  pub some : 1 ≤ n
  pub few : n ≤ 1000
  pub on : s.late ≡ None
  pub clock : s.clock + n ≤ 1000000

-- A call takes s to t; a refused one changes nothing.
pub data Step (m : Meaning) : Call → Course → Course → Type 0 where
  gives : {p i c : ℕ} {s t : Course} → MayRelease m s p i c → Release s p i c t → Step m (release p i c) s t
  refuses : {p i c : ℕ} {s : Course} → (MayRelease m s p i c → ⊥) → Step m (release p i c) s s
  goes : {n : ℕ} {s t : Course} → MayAdvance s n → Passes m n s t → Step m (advance n) s t
  stays : {n : ℕ} {s : Course} → (MayAdvance s n → ⊥) → Step m (advance n) s s

-- A list of calls takes s to t.
pub data Runs (m : Meaning) : List Call → Course → Course → Type 0 where
  done : {s : Course} → Runs m [] s s
  then : {c : Call} {cs : List Call} {s t u : Course} → Step m c s t → Runs m cs t u → Runs m (c ∷ cs) s u

-- The computed tick is the one that the rules allow, and no other is.
abbrev pub TickByRules : Type 0
TickByRules = (m : Meaning) (s t : Course) → Whole s → (Tick m s t → t ≡ ticked m s) × (t ≡ ticked m s → Tick m s t)

-- The runs that the rules allow from the start are the computed ones.
abbrev pub RunsByRules : Type 0
RunsByRules = (m : Meaning) (cs : List Call) (t : Course) → (Runs m cs fresh t → t ≡ after_calls m cs fresh) × (t ≡ after_calls m cs fresh → Runs m cs fresh t)
