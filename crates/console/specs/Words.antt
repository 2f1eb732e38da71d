-- What is written of an answer, byte for byte. Assumes nothing.
use Rattle.std.specs.Prelude.{ℕ, zero, suc, Bool, true, false, List, [], ◌++◌, length, slice_index, Some, None, Ok, Err, codes, decimal, Option, Result}
use Rattle.line.specs.Refusals.{number_of}
use Rattle.line.specs.declared.refusal.Refusal.{Refusal}
use Rattle.response.specs.declared.Verdict.{Verdict}
use Rattle.response.specs.Words.{verdict_words as words_of_verdict}
pub use Rattle.faults.specs.Faults.{fault_words}
use Rattle.run.specs.declared.Advance.{Advance}
use Rattle.run.specs.declared.Late.{Late}
use Rattle.console.specs.declared.answer.Walk.{Walk}
use Rattle.console.specs.declared.answer.Walk.TheVariants as walk
use Rattle.console.specs.declared.answer.Answer.{Answer}
use Rattle.console.specs.declared.answer.Answer.TheVariants as answer

-- The answer to a call that only accepts or refuses.
abbrev pub answer_of : Result (Unit {0}) Refusal → Answer
answer_of (Ok u) = answer.Done
answer_of (Err e) = answer.Refused e

-- The refusal that an answer is, if it is one.
abbrev pub refusal_in : Answer → Option Refusal
refusal_in answer.Done = None
refusal_in (answer.Number n) = None
refusal_in (answer.Verdict v) = None
refusal_in (answer.Saved n) = None
refusal_in (answer.Shown n) = None
refusal_in (answer.Walk w) = None
refusal_in (answer.Advanced a) = None
refusal_in (answer.Refused e) = Some e
refusal_in (answer.Fault f) = Some f.refusal
refusal_in answer.NoDraft = None
refusal_in answer.NoRun = None
refusal_in answer.Unknown = None

-- Whether a call was played and not refused.
abbrev pub played : Answer → Bool
played answer.Done = true
played (answer.Number n) = true
played (answer.Verdict v) = true
played (answer.Saved n) = true
played (answer.Shown n) = true
played (answer.Walk w) = true
played (answer.Advanced a) = true
played (answer.Refused e) = false
played (answer.Fault f) = false
played answer.NoDraft = false
played answer.NoRun = false
played answer.Unknown = false

-- A refusal: its number.
abbrev pub refused_words : Refusal → List ℕ
refused_words e = codes "refused " ++ decimal (number_of e)

-- The verdict that stands, and `none` where there is none.
abbrev pub verdict_words : Option (Verdict ℕ) → List ℕ
verdict_words None = codes "none"
verdict_words (Some v) = words_of_verdict v

-- A walk: its work, and whether it is one that fits.
abbrev pub walk_words : Walk → List ℕ
walk_words (walk.Fits work) = decimal work ++ codes " fits"
walk_words (walk.Fails work) = decimal work ++ codes " fails"

-- The late job of an advance, if there is one: its task and mode.
abbrev pub late_words : Option (Late ℕ) → List ℕ
late_words None = []
late_words (Some l) = codes " late " ++ (decimal l.task ++ (codes " " ++ decimal l.mode))

-- What an advance did: the ticks, and the late job.
abbrev pub advance_words : Advance ℕ → List ℕ
advance_words a = decimal a.ticks ++ late_words a.late

-- The line of an answer, without its line feed; a saved text and a shown walk have lines of their own.
abbrev pub answer_words : Answer → List ℕ
answer_words answer.Done = codes "ok"
answer_words (answer.Number n) = decimal n
answer_words (answer.Verdict v) = verdict_words v
answer_words (answer.Saved n) = []
answer_words (answer.Shown n) = []
answer_words (answer.Walk w) = walk_words w
answer_words (answer.Advanced a) = advance_words a
answer_words (answer.Refused e) = refused_words e
answer_words (answer.Fault f) = fault_words f
answer_words answer.NoDraft = codes "no draft"
answer_words answer.NoRun = codes "no run"
answer_words answer.Unknown = codes "unknown"

-- The first k modes of a walk, each behind a space.
abbrev pub modes_words : List ℕ → ℕ → List ℕ
modes_words walk zero = []
modes_words walk (suc k) = modes_words walk k ++ (codes " " ++ decimal (slice_index walk k))

-- The line of a shown walk: how many modes it has, and its modes.
abbrev pub shown_line : List ℕ → List ℕ
shown_line walk = decimal (length walk) ++ (modes_words walk (length walk) ++ codes "\n")
