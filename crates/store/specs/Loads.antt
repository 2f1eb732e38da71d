-- What loading a text means, in the words of its format. Assumes nothing.
use Rattle.std.specs.Prelude.{◌≡◌, ℕ, ◌<◌, true, false, cond, ◌⊎◌, List, length, Ok, Err, vec_items, Result, Vec, nat_lt}
use Rattle.std.specs.declared.alloc.Global.{Global}
use Rattle.line.specs.declared.refusal.Refusal.{Refusal}
use Rattle.line.specs.declared.refusal.Refusal.TheVariants.{OutOfRange, NoForm, Trailer, NoMemory}
use Rattle.line.specs.Answers.{Answer, and_then, sheet_answer}
use Rattle.table.specs.Items.{Item}
use Rattle.editor.specs.Desks.{with_tasks}
use Rattle.bench.specs.State.{State, edited, install_answer}
use Rattle.forms.specs.declared.form.Form.{Form}
use Rattle.forms.specs.Places.{At, start, rest_of}
use Rattle.forms.specs.Reads.{Spelled, Formless}
use Rattle.table.specs.Tables.{items}
use Rattle.table.specs.declared.table.Table.{Table}
use Rattle.faults.specs.declared.LineFault.{LineFault}
use Rattle.faults.specs.declared.TableFault.{TableFault}
use Rattle.faults.specs.declared.LoadFault.{LoadFault}
use Rattle.faults.specs.Faults.{in_table, in_text, placed}
use Rattle.loader.specs.Progress.{Progress, beginning, stepping, is_end}
use Rattle.loader.specs.Loaders.{SheetAfter}

-- Reading on from a place, with the tasks read so far, comes to that end:
pub data Loads : At → Progress → Result (List Item) LoadFault → Type 0 where
  -- the text ends without its trailer, which is refused at the line after the last;
  cut_off : {s : At} {p : Progress} → length (rest_of s) ≡ 0 → Loads s p (Err (placed (in_text Trailer) s.line s.pos))
  -- the line has none of the five forms;
  formless : {s : At} {p : Progress} → 0 < length (rest_of s) → Formless s → Loads s p (Err (placed (in_text NoForm) s.line s.pos))
  -- the line's own step is refused, at that line;
  refused : {s t : At} {p : Progress} {f : Form} {e : LineFault} → Spelled s f t → stepping s.pos f p ≡ Err e → Loads s p (Err (placed e s.line s.pos))
  -- the line is accepted and is not the trailer, and reading goes on after it;
  onward : {s t : At} {p q : Progress} {f : Form} {r : Result (List Item) LoadFault} → Spelled s f t → is_end f ≡ false → stepping s.pos f p ≡ Ok q → Loads t q r → Loads s p r
  -- a right trailer ends the text: the tasks are those read;
  whole : {s t : At} {p q : Progress} {f : Form} → Spelled s f t → is_end f ≡ true → stepping s.pos f p ≡ Ok q → length (rest_of t) ≡ 0 → Loads s p (Ok q.desk.tasks)
  -- anything follows a right trailer, which is refused at the line that follows it.
  followed : {s t : At} {p q : Progress} {f : Form} → Spelled s f t → is_end f ≡ true → stepping s.pos f p ≡ Ok q → 0 < length (rest_of t) → Loads s p (Err (placed (in_text Trailer) t.line t.pos))

-- Reading a whole text.
abbrev pub Reading : List ℕ → Result (List Item) LoadFault → Type 0
Reading text r = Loads (start text) beginning r

-- A text has at most one reading: any two ends that reading it comes to are equal, tasks or a refusal with its line, place and layer.
unfoldable pub ReadsOnce : List ℕ → Type 0
ReadsOnce text = (r r' : Result (List Item) LoadFault) → Reading text r → Reading text r' → r ≡ r'

-- Before any line: the text has at most 65,535 bytes, the sheet is long enough, and the bench may be given a table.
abbrev pub load_answer : State → ℕ → ℕ → Answer
load_answer s bytes cells = and_then (cond (nat_lt 65535 bytes) (Err OutOfRange) (Ok tt)) (and_then (sheet_answer cells) (install_answer s))

-- A whole text was read and its tasks are on the bench, with the sheet as their closes leave it, one after the other.
pub record Loaded (s : State) (text : List ℕ) (sheet : List ℕ) (s' : State) (sheet' : List ℕ) : Type 0 where
  pub tasks : List Item
  pub may : load_answer s (length text) (length sheet) ≡ Ok tt
  pub reads : Reading text (Ok tasks)
  pub after : s' ≡ edited s (with_tasks s.desk tasks)
  pub closes : SheetAfter tasks sheet sheet'

-- Why a load is refused: before any line, at line 0; by the text; or because memory is wanting.
abbrev pub Why : State → List ℕ → List ℕ → LoadFault → Type 0
Why s text sheet f =
    ((e : Refusal) × (load_answer s (length text) (length sheet) ≡ Err e) × (f ≡ placed (in_table e) 0 0))
    ⊎ (((load_answer s (length text) (length sheet) ≡ Ok tt) × Reading text (Err f)) ⊎ (f.refusal ≡ NoMemory))

-- What load answers and leaves: a refusal changes nothing, whatever lines were read before.
abbrev pub LoadDone : State → List ℕ → List ℕ → Result (Unit {0}) LoadFault → State → List ℕ → Type 0
LoadDone s text sheet (Ok u) s' sheet' = Loaded s text sheet s' sheet'
LoadDone s text sheet (Err f) s' sheet' = Why s text sheet f × (s' ≡ s) × (sheet' ≡ sheet)

-- What reading a text into a table gives; the sheet is then as the closes leave it.
abbrev pub ReadDone : List ℕ → List ℕ → Result Table LoadFault → List ℕ → Type 0
ReadDone text sheet (Ok t) sheet' = Reading text (Ok (items t)) × SheetAfter (items t) sheet sheet'
ReadDone text sheet (Err f) sheet' = Reading text (Err f) ⊎ (f.refusal ≡ NoMemory)

abbrev pub ReadOver : List ℕ → List ℕ → Result (Table × Vec ℕ Global) LoadFault → Type 0
ReadOver text sheet (Ok r) = ReadDone text sheet (Ok r.0) (vec_items r.1) × (length (vec_items r.1) ≡ length sheet)
ReadOver text sheet (Err f) = Reading text (Err f) ⊎ (f.refusal ≡ NoMemory)

-- A check of the table's layer.
abbrev pub Refuses : Answer → Result (Unit {0}) TableFault → Type 0
Refuses answer (Ok u) = answer ≡ Ok tt
Refuses answer (Err e) = answer ≡ Err e.0

-- What comes of a text after a right trailer, with those tasks read.
abbrev pub LastDone : At → List Item → Result Table LoadFault → Type 0
LastDone s is (Ok t) = (length (rest_of s) ≡ 0) × (items t ≡ is)
LastDone s is (Err f) = (0 < length (rest_of s)) × (f ≡ placed (in_text Trailer) s.line s.pos)
