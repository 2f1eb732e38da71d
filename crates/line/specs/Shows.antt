-- What an exact line shows. Assumes nothing.
use Rattle.std.specs.Prelude.{◌≡◌, ℕ, ◌≤◌, cond, ◌||◌, List, length, take, Ok, Err, Result, nat_le, nat_lt, slice_index}
use Rattle.line.specs.declared.refusal.Refusal.{Refusal}
use Rattle.line.specs.declared.refusal.Refusal.TheVariants.{OutOfRange, TooShort, NotThere}
use Rattle.line.specs.Meaning.{Task, Meaning}
use Rattle.line.specs.Walks.{Walk, Fits, work}

-- The first n cells of the list are a walk that fits w and whose work is the task's most, and the later
-- cells are as they were.
pub record Shown (t : Task) (w n : ℕ) (was is : List ℕ) : Type 0 where
  pub within : n ≤ 1000
  pub walk : Walk t.graph (take n is)
  pub fits : Fits t.graph w (take n is)
  pub most : work t.graph (take n is) ≡ t.most w
  pub later : (k : ℕ) → n ≤ k → slice_index is k ≡ slice_index was k

-- The refusals of show over a line of that many tasks, by rising number.
abbrev pub show_answer : ℕ → ℕ → ℕ → ℕ → ℕ → Result (Unit {0}) Refusal
show_answer count place window sheet list =
    cond (nat_le 16 place || nat_lt 1000 window) (Err OutOfRange)
    (cond (nat_lt sheet 16016 || nat_lt list 1000) (Err TooShort)
    (cond (nat_le count place) (Err NotThere) (Ok tt)))

-- What show answers and leaves: a refusal changes nothing; else a walk is shown, and the sheet is as the
-- line's make leaves it.
abbrev pub ShowDone : Meaning → (List ℕ → List ℕ → Type 0) → ℕ → ℕ → List ℕ → List ℕ → List ℕ → List ℕ → Result ℕ Refusal → Type 0
ShowDone m leaves place window sheet sheet' list list' (Ok n) =
    (show_answer m.count place window (length sheet) (length list) ≡ Ok tt) × Shown (m.at place) window n list list' × leaves sheet sheet'
ShowDone m leaves place window sheet sheet' list list' (Err e) =
    (show_answer m.count place window (length sheet) (length list) ≡ Err e) × (sheet' ≡ sheet) × (list' ≡ list)
