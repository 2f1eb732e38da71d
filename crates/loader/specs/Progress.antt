-- What each line of a text does to the tasks read so far. Assumes nothing.
use Rattle.std.specs.Prelude.{ℕ, Bool, true, false, cond, ◌&&◌, length, is_some, Some, None, Ok, Err, Option, Result, ◌==◌}
use Rattle.line.specs.declared.refusal.Refusal.{Refusal}
use Rattle.line.specs.declared.refusal.Refusal.TheVariants.{NoForm, Trailer}
use Rattle.line.specs.Answers.{Answer}
use Rattle.modes.specs.Plans.{whole_answer}
use Rattle.editor.specs.Drafts.{Outline}
use Rattle.editor.specs.Desks.{Desk, clear, put_answer, after_put, open_answer, after_open, mode_answer, after_mode, linking_answer, after_linking, after_close}
use Rattle.forms.specs.declared.form.Form.{Form}
use Rattle.forms.specs.declared.form.Form.TheVariants.{Sporadic, Angular, Mode, Link, End}
use Rattle.faults.specs.declared.LineFault.{LineFault}
use Rattle.faults.specs.Faults.{in_task, in_table, in_text}

-- The tasks read so far, with the angular task whose lines are being read as the draft, and the byte place
-- where the last task's first line begins.
pub record Progress : Type 0 where
  pub desk : Desk
  pub last : ℕ

-- Nothing has been read.
abbrev pub beginning : Progress
beginning = record { desk = clear; last = 0 }

-- A line's outcome: the progress after it, or its refusal.
abbrev pub Outcome : Type 0
Outcome = Result Progress LineFault

abbrev pub by : (Refusal → LineFault) → Answer → Progress → Outcome
by fault (Ok u) p = Ok p
by fault (Err e) p = Err (fault e)

abbrev pub and_go : Outcome → (Progress → Outcome) → Outcome
and_go (Ok p) next = next p
and_go (Err e) next = Err e

abbrev pub closing_with : Option Outline → Progress → Outcome
closing_with None p = Ok p
closing_with (Some o) p = by in_task (whole_answer o.plan) (record { desk = after_close p.desk; last = p.last })

-- The angular task above is closed, if there is one.
abbrev pub closing : Progress → Outcome
closing p = closing_with p.desk.draft p

-- A sporadic task is appended; its line begins at that place.
abbrev pub putting : ℕ → ℕ → ℕ → ℕ → ℕ → Progress → Outcome
putting place number cost period deadline p =
    by in_table (put_answer p.desk number 15 cost period deadline) (record { desk = after_put p.desk number 15 cost period deadline; last = place })

-- An angular task is opened, to be appended; its first line begins at that place.
abbrev pub opening : ℕ → ℕ → Progress → Outcome
opening place number p = by in_table (open_answer p.desk number 15) (record { desk = after_open p.desk number 15; last = place })

-- A mode or link line stands only under an angular line.
abbrev pub under_angular : Progress → Result (Unit {0}) LineFault
under_angular p = cond (is_some p.desk.draft) (Ok tt) (Err (in_text NoForm))

abbrev pub moding : ℕ → ℕ → Progress → Outcome
moding cost deadline p = by in_task (mode_answer p.desk cost deadline) (record { desk = after_mode p.desk cost deadline; last = p.last })

abbrev pub linking : ℕ → ℕ → ℕ → Progress → Outcome
linking from to gap p = by in_task (linking_answer p.desk from to gap) (record { desk = after_linking p.desk from to gap; last = p.last })

-- The trailer counts the tasks, and has the place where the last one's first line begins.
abbrev pub ending : ℕ → ℕ → Progress → Result (Unit {0}) LineFault
ending count place p = cond (count == length p.desk.tasks && place == p.last) (Ok tt) (Err (in_text Trailer))

abbrev pub checked : Result (Unit {0}) LineFault → Outcome → Outcome
checked (Ok u) next = next
checked (Err e) next = Err e

-- What the line that begins at a place does: one that begins a task, or the trailer, first closes the
-- angular task above it.
abbrev pub stepping : ℕ → Form → Progress → Outcome
stepping at (Sporadic number cost period deadline) p = and_go (closing p) (putting at number cost period deadline)
stepping at (Angular number) p = and_go (closing p) (opening at number)
stepping at (Mode cost deadline) p = checked (under_angular p) (moding cost deadline p)
stepping at (Link from to gap) p = checked (under_angular p) (linking from to gap p)
stepping at (End count place) p = and_go (closing p) (λ q. checked (ending count place q) (Ok q))

abbrev pub is_end : Form → Bool
is_end (Sporadic number cost period deadline) = false
is_end (Angular number) = false
is_end (Mode cost deadline) = false
is_end (Link from to gap) = false
is_end (End count place) = true
