-- Where an accepted call found its task. Assumes nothing.
use Rattle.std.proofs.Common.{◌≡◌, ℕ, suc, ◌<◌, Bool, true, false, cond, eqb, List, [], ◌∷◌, length, is_some, Some, None, Ok, Err, Option, Result, sym, refl, ap, arith}
use Rattle.std.specs.Option.{option_map}
use Rattle.line.specs.declared.change.Change.{Change}
use Rattle.line.specs.declared.refusal.Refusal.{Refusal}
use Rattle.line.specs.declared.refusal.Refusal.TheVariants.{DraftOpen}
use Rattle.line.specs.Meaning.{task_at}
use Rattle.line.specs.Changes.{change_numbers, change_answer}
use Rattle.line.specs.Answers.{Answer, and_then, sheet_answer}
use Rattle.table.specs.Numbers.{task_numbers}
use Rattle.table.specs.Items.{Item, line_of, place_of, there_answer}
use Rattle.editor.specs.Desks.{Desk, idle, found_at, find_answer, at_place, take_answer, changing_answer}

-- The place of a task is in the table.
pub place_within : (n : ℕ) (is : List Item) (k : ℕ) → place_of n is ≡ Some k → k < length is
place_within n [] k e = absurd (cc (e))
place_within n (i ∷ is) k e = go (eqb i.number n) (place_of n is) (λ j q. place_within n is j q) e
  where
    go : (b : Bool) (o : Option ℕ) → ((j : ℕ) → o ≡ Some j → j < length is) → cond b (Some 0) (option_map suc o) ≡ Some k → k < length (i ∷ is)
    go true o q h = let z : 0 ≡ k = cc (h) in omega (arith, z)
    go false None q h = absurd (cc (h))
    go false (Some j) q h = let z : suc j ≡ k = cc (h) in omega (arith, z, q j refl)

-- What was found is where the number stands.
pub found : (d : Desk) (number place : ℕ) → Ok place ≡ find_answer d number → place_of number d.tasks ≡ Some place
found d number place h = go (is_some d.draft) (place_of number d.tasks) h
  where
    go : (b : Bool) (o : Option ℕ) → Ok place ≡ cond b (Err DraftOpen) (found_at o) → o ≡ Some place
    go true o e = absurd (cc (e))
    go false None e = absurd (cc (e))
    go false (Some k) e = let z : place ≡ k = cc (e) in ap Some (sym z)

-- An accepted take, and an accepted change, found the task where its number stands.
take_found : (x y : Answer) (o : Option ℕ) → and_then x (and_then y (there_answer o)) ≡ Ok tt → (place : ℕ) × (o ≡ Some place)
take_found (Ok u) (Ok v) (Some place) h = (place, refl)
take_found (Ok u) (Ok v) None h = absurd (cc (h))
take_found (Ok u) (Err e) o h = absurd (cc (h))
take_found (Err e) y o h = absurd (cc (h))

pub take_place : (d : Desk) (number : ℕ) → take_answer d number ≡ Ok tt → (place : ℕ) × (place_of number d.tasks ≡ Some place)
take_place d number h = take_found (task_numbers number 0) (idle d) (place_of number d.tasks) h

change_found : (x y z : Answer) (r : Result ℕ Refusal) (f : ℕ → Answer) → and_then x (and_then y (and_then z (at_place r f))) ≡ Ok tt → (place : ℕ) × (r ≡ Ok place) × (f place ≡ Ok tt)
change_found (Ok u) (Ok v) (Ok w) (Ok place) f h = (place, refl, h)
change_found (Ok u) (Ok v) (Ok w) (Err e) f h = absurd (cc (h))
change_found (Ok u) (Ok v) (Err e) r f h = absurd (cc (h))
change_found (Ok u) (Err e) z r f h = absurd (cc (h))
change_found (Err e) y z r f h = absurd (cc (h))

pub change_place : (d : Desk) (number : ℕ) (c : Change) (cells : ℕ) → changing_answer d number c cells ≡ Ok tt → (place : ℕ) × (place_of number d.tasks ≡ Some place) × (change_answer (task_at (line_of d.tasks) place).graph c ≡ Ok tt)
change_place d number c cells h =
    let f = change_found (task_numbers number 0) (change_numbers c) (sheet_answer cells) (find_answer d number) (λ place. change_answer (task_at (line_of d.tasks) place).graph c) h in
    (f.0, found d number f.0 (sym f.1), f.2)
