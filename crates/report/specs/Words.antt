-- What a report says, byte for byte. Assumes nothing.
use Rattle.std.specs.Prelude.{◌≡◌, ℕ, zero, suc, ◌⊎◌, List, [], ◌++◌, length, Some, None, Option, Ok, Err, string_bytes, codes, decimal, ◌≢◌, Result, String}
use Rattle.std.specs.Option.{unwrap_or}
use Rattle.std.specs.Result.{result_ok}
use Rattle.std.specs.declared.alloc.Global.{Global}
use Rattle.line.specs.Meaning.{task_at, modes_in}
use Rattle.line.specs.declared.refusal.Refusal.{Refusal}
use Rattle.line.specs.declared.refusal.Refusal.TheVariants.{NoMemory}
use Rattle.table.specs.Items.{Item, line_of, number_at}
use Rattle.editor.specs.Desks.{clear, with_tasks}
use Rattle.bench.specs.State.{State, fresh, edited, after_judge, bound_answer}
use Rattle.response.specs.declared.Verdict.{Verdict}
use Rattle.response.specs.Words.{verdict_words}
pub use Rattle.faults.specs.Faults.{layer_word, fault_words}
use Rattle.faults.specs.declared.LoadFault.{LoadFault}
use Rattle.store.specs.Loads.{Reading, Why}

-- A refused text: number, line, byte place and layer.
abbrev pub fault_text : LoadFault → List ℕ
fault_text f = fault_words f ++ codes "\n"

-- A mode's line: the task's number, the mode and its bound.
abbrev pub mode_text : ℕ → ℕ → ℕ → List ℕ
mode_text task mode bound = decimal task ++ (codes " " ++ (decimal mode ++ (codes " " ++ (decimal bound ++ codes "\n"))))

-- The lines of a task's first k modes.
abbrev pub modes_text : ℕ → (ℕ → ℕ) → ℕ → List ℕ
modes_text task bound zero = []
modes_text task bound (suc k) = modes_text task bound k ++ mode_text task k (bound k)

-- The bound that the bench shows of a mode, and 0 where it shows none.
abbrev pub bound_shown : State → ℕ → ℕ → ℕ
bound_shown s task mode = unwrap_or (result_ok (bound_answer s task mode)) 0

-- The lines of the task at a place.
abbrev pub task_text : State → ℕ → List ℕ
task_text s place =
    modes_text (number_at s.desk.tasks place) (bound_shown s (number_at s.desk.tasks place)) (modes_in (task_at (line_of s.desk.tasks) place))

-- The lines of the tasks at the first k places.
abbrev pub tasks_text : State → ℕ → List ℕ
tasks_text s zero = []
tasks_text s (suc k) = tasks_text s k ++ task_text s k

-- The verdict, and `none` where there is none.
abbrev pub verdict_text : Option (Verdict ℕ) → List ℕ
verdict_text None = codes "none\n"
verdict_text (Some v) = verdict_words v ++ codes "\n"

-- The bounds of every mode, by place and then by mode, and the verdict.
abbrev pub judged_text : State → List ℕ
judged_text s = tasks_text s (length s.desk.tasks) ++ verdict_text s.verdict

-- The bench of a report, with those tasks, judged.
abbrev pub judged_of : List Item → State
judged_of is = after_judge (edited (fresh 1) (with_tasks clear is))

-- What is reported of a text: the bounds and the verdict of the table that it spells, or why it is refused. Want of
-- memory is not reported.
abbrev pub Reported : List ℕ → List ℕ → Type 0
Reported text out =
    ((is : List Item) × Reading text (Ok is) × (out ≡ judged_text (judged_of is)))
    ⊎ ((f : LoadFault) × (sheet : List ℕ) × (length sheet ≡ 16016) × Why (fresh 1) text sheet f × (f.refusal ≢ NoMemory) × (out ≡ fault_text f))

-- Only want of memory leaves a text without a report.
abbrev pub ReportDone : List ℕ → Result (String Global) Refusal → Type 0
ReportDone text (Ok s) = Reported text (string_bytes s)
ReportDone text (Err e) = e ≡ NoMemory
