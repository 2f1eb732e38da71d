-- How answers are put together. Assumes nothing.
use Rattle.std.specs.Prelude.{◌≡◌, ℕ, cond, Ok, Err, Result, nat_lt}
use Rattle.line.specs.declared.refusal.Refusal.{Refusal}
use Rattle.line.specs.declared.refusal.Refusal.TheVariants.{TooShort}

-- A check's answer: it passes, or it refuses.
abbrev pub Answer : Type 0
Answer = Result (Unit {0}) Refusal

-- The first refusal of two checks, one after the other.
abbrev pub and_then : Answer → Answer → Answer
and_then (Ok u) next = next
and_then (Err e) next = Err e

-- A making answers as its check does, and what it makes is as said.
abbrev pub MadeBy : {X : Type 0} → Answer → (X → Type 0) → Result X Refusal → Type 0
MadeBy answer P (Ok x) = (answer ≡ Ok tt) × P x
MadeBy answer P (Err e) = answer ≡ Err e

-- A work sheet has at least 16,016 cells.
abbrev pub sheet_answer : ℕ → Answer
sheet_answer cells = cond (nat_lt cells 16016) (Err TooShort) (Ok tt)
