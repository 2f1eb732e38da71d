-- What save answers and leaves. Assumes nothing.
use Rattle.std.specs.Prelude.{◌≡◌, ℕ, ◌<◌, cond, List, ◌++◌, length, take, drop, Ok, Err, Result, nat_lt}
use Rattle.line.specs.declared.refusal.Refusal.{Refusal}
use Rattle.line.specs.declared.refusal.Refusal.TheVariants.{TooShort, NoMemory}
use Rattle.line.specs.Answers.{sheet_answer}
use Rattle.table.specs.Items.{Item}
use Rattle.faults.specs.declared.LoadFault.{LoadFault}
use Rattle.editor.specs.Desks.{with_tasks}
use Rattle.bench.specs.State.{State, edited, install_answer}
use Rattle.store.specs.Loads.{Reading, LoadDone}
use Rattle.save.specs.Texts.{text_of}

-- An output of that many bytes is too short for a text of len.
abbrev pub room_answer : ℕ → ℕ → Result (Unit {0}) Refusal
room_answer len room = cond (nat_lt room len) (Err TooShort) (Ok tt)

-- The output begins with the table's text, whose length is answered, and its later bytes stay; or it is too short
-- for the text, and stays as it was.
abbrev pub SaveDone : List Item → List ℕ → List ℕ → Result ℕ Refusal → Type 0
SaveDone is was now (Ok n) = (n ≡ length (text_of is)) × (now ≡ text_of is ++ drop n was)
SaveDone is was now (Err e) = (e ≡ TooShort) × (length was < length (text_of is)) × (now ≡ was)

-- The saved text reads as those tasks.
abbrev pub ReadsBack : List Item → Type 0
ReadsBack is = Reading (text_of is) (Ok is)

-- It reads as nothing else, and so is never refused.
abbrev pub ReadsOnly : List Item → Type 0
ReadsOnly is = (r : Result (List Item) LoadFault) → Reading (text_of is) r → r ≡ Ok is

-- What comes of loading those tasks' text onto a bench: the bench has them, or memory was wanting.
abbrev pub Reloaded : State → List Item → Result (Unit {0}) LoadFault → State → Type 0
Reloaded s is (Ok u) s' = s' ≡ edited s (with_tasks s.desk is)
Reloaded s is (Err f) s' = f.refusal ≡ NoMemory

-- A load of the saved text onto any bench with no task, no draft and no run, with a work sheet that is long enough,
-- leaves just those tasks there, and is never refused but for want of memory.
abbrev pub LoadsBack : List Item → Type 0
LoadsBack is =
    (s s' : State) (sheet sheet' : List ℕ) (r : Result (Unit {0}) LoadFault) → sheet_answer (length sheet) ≡ Ok tt → install_answer s ≡ Ok tt → LoadDone s (text_of is) sheet r s' sheet' → Reloaded s is r s'

-- Saving what was loaded gives the table's one text: two benches onto which texts were loaded as those tasks save as the
-- same bytes, whatever the texts, the benches before the loads and the outputs were.
abbrev pub SavedOnce : List Item → Type 0
SavedOnce is =
    (s s' t t' : State) (text text' sheet sheet' cells cells' was now was' now' : List ℕ) (n n' : ℕ) → LoadDone s text sheet (Ok tt) s' sheet' → LoadDone t text' cells (Ok tt) t' cells' → s'.desk.tasks ≡ is → t'.desk.tasks ≡ is → SaveDone s'.desk.tasks was now (Ok n) → SaveDone t'.desk.tasks was' now' (Ok n') → (take n now ≡ text_of is) × (take n' now' ≡ text_of is)
