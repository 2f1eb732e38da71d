-- What a loader has read, and what its steps do to the work sheet. Assumes nothing.
use Rattle.std.specs.Prelude.{◌≡◌, ℕ, Bool, ◌⊎◌, List, [], ◌∷◌, Ok, Err, Result}
use Rattle.line.specs.declared.refusal.Refusal.TheVariants.{NoForm, NoMemory}
use Rattle.table.specs.Items.{Item, Leaves}
use Rattle.editor.specs.Desks.{desk}
use Rattle.forms.specs.declared.form.Form.{Form}
use Rattle.forms.specs.Places.{At}
use Rattle.forms.specs.Reads.{Spelled, Formless}
use Rattle.faults.specs.declared.LineFault.{LineFault}
use Rattle.loader.specs.declared.Loader.{Loader}
use Rattle.faults.specs.Faults.{in_text}
use Rattle.loader.specs.Progress.{Progress, Outcome, stepping, is_end}

abbrev pub progress : Loader → Progress
progress l = record { desk = desk l.editor; last = l.last }

-- What closing those tasks one after the other makes of the work sheet.
abbrev pub SheetAfter : List Item → List ℕ → List ℕ → Type 0
SheetAfter [] was is = is ≡ was
SheetAfter (i ∷ is) was now = (mid : List ℕ) × Leaves i.make was mid × SheetAfter is mid now

-- A step has the outcome that is defined for it.
abbrev pub Stepped : {E : Type 0} → Outcome → (E → LineFault) → Result (Unit {0}) E → Progress → Type 0
Stepped outcome fault (Ok u) q = outcome ≡ Ok q
Stepped outcome fault (Err e) q = outcome ≡ Err (fault e)

-- The same of one that may want memory.
abbrev pub Opens : {E : Type 0} → Outcome → (E → LineFault) → Result (Unit {0}) E → Progress → Type 0
Opens outcome fault (Ok u) q = outcome ≡ Ok q
Opens outcome fault (Err e) q = (outcome ≡ Err (fault e)) ⊎ ((fault e).refusal ≡ NoMemory)

-- Where the sheet was as the closes of the tasks so far left it, it is so after a step too.
abbrev pub Onward : Progress → List ℕ → Progress → List ℕ → Type 0
Onward p was q now = (first : List ℕ) → SheetAfter p.desk.tasks first was → SheetAfter q.desk.tasks first now

abbrev pub Carries : {E : Type 0} → Progress → List ℕ → Result (Unit {0}) E → Progress → List ℕ → Type 0
Carries p was (Ok u) q now = Onward p was q now
Carries p was (Err e) q now = Unit {0}

-- The same of a step that leaves the sheet alone.
abbrev pub Kept : {E : Type 0} → Progress → Result (Unit {0}) E → Progress → Type 0
Kept p r q = (sheet : List ℕ) → Carries p sheet r q sheet

-- Reading the line at s and doing what it says: it was spelled there and its step was accepted, and the answer
-- is whether it was the trailer; or it has no form, or its step was refused, or memory is wanting.
abbrev pub NextDone : At → Progress → Result Bool LineFault → At → Progress → Type 0
NextDone s p (Ok b) t q = (f : Form) × Spelled s f t × (is_end f ≡ b) × (stepping s.pos f p ≡ Ok q)
NextDone s p (Err e) t q =
    (Formless s × (e ≡ in_text NoForm)) ⊎ (((f : Form) × (u : At) × Spelled s f u × (stepping s.pos f p ≡ Err e)) ⊎ (e.refusal ≡ NoMemory))
