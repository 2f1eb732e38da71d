-- A table's tasks after one was taken out or changed. Assumes nothing.
use Rattle.std.proofs.Common.{◌≡◌, ℕ, zero, suc, ◌+◌, ◌<◌, ◌≤◌, Bool, true, false, cond, not, ◌&&◌, eqb, List, [], ◌∷◌, map, length, get_or, set, is_some, is_ok, Some, Ok, sym, refl, ap, ◌∙◌, inl, inr, arith}
use lib.Seq.{map-set}
use Rattle.std.specs.List.{insert, remove}
use Rattle.std.specs.Option.{option_map}
use Rattle.std.proofs.lemmas.List.{map-append, take-map, drop-map}
use Rattle.std.proofs.lemmas.Bool.{and_parts, and_from, cases_lt, not-true, not_from_false, le-ltb, cond-true, cond-false}
use Rattle.std.proofs.lemmas.Bool.Decides.{nat_tests}
use Rattle.line.specs.Meaning.{Graph, task_at, nowhere}
use Rattle.line.specs.Changes.{change_answer}
use Rattle.line.specs.declared.change.Change.{Change}
use Rattle.line.specs.declared.change.Change.TheVariants.{Lower, Widen, Cut}
use Rattle.line.proofs.Changing.{told}
use Rattle.table.specs.Items.{Item, Make, sporadic, angular, blank, line_of, place_of, is_angular, angulars, apart, changed_make, changed_at}
use Rattle.table.specs.Numbers.{task_numbers}
use Rattle.table.specs.Tasks.{make_of, item_of}
use Rattle.table.specs.declared.make.Make.{Make as Made}
use Rattle.table.specs.declared.make.Task.{Task}
use Rattle.table.proofs.Entering.{holds, holds_cons}
use Rattle.table.proofs.Reading.{item_there}

pub items_removed : (ts : List Task) (i : ℕ) → map item_of (remove ts i) ≡ remove (map item_of ts) i
items_removed ts i = simp (map-append, take-map, drop-map)

-- An element taken out and another put in its place.
put_back : {X : Type 0} (xs : List X) (k : ℕ) (y : X) → k < length xs → insert (remove xs k) k y ≡ set xs k y
put_back [] k y h = absurd (omega (arith, h))
put_back (x ∷ xs) zero y h = refl
put_back {X} (x ∷ xs) (suc k) y h = ap (λ (zs : List X). x ∷ zs) (put_back xs k y (omega arith))

-- ---- a task taken out
-- no number comes in
holds_removed : (n : ℕ) (is : List Item) (k : ℕ) → holds n is ≡ false → holds n (remove is k) ≡ false
holds_removed n [] zero h = refl
holds_removed n [] (suc k) h = refl
holds_removed n (i ∷ is) zero h = let c = sym (holds_cons n i is) ∙ h in grind (arith, nat_tests, c)
holds_removed n (i ∷ is) (suc k) h =
    let c = sym (holds_cons n i is) ∙ h in
    let e : eqb i.number n ≡ false = grind (arith, nat_tests, c) in
    let f : holds n is ≡ false = grind (arith, nat_tests, c) in
    holds_cons n i (remove is k) ∙ cond-false _ true (holds n (remove is k)) e ∙ holds_removed n is k f

pub apart_removed : (is : List Item) (k : ℕ) → apart is ≡ true → apart (remove is k) ≡ true
apart_removed [] zero a = refl
apart_removed [] (suc k) a = refl
apart_removed (i ∷ is) zero a =
    (and_parts (not (holds i.number is)) (apart is) (and_parts (is_ok (task_numbers i.number 0)) (not (holds i.number is) && apart is) a).1).1
apart_removed (i ∷ is) (suc k) a =
    let p = and_parts (is_ok (task_numbers i.number 0)) (not (holds i.number is) && apart is) a in
    let q = and_parts (not (holds i.number is)) (apart is) p.1 in
    and_from _ _ p.0 (and_from _ _ (not_from_false _ (holds_removed i.number is k (not-true _ q.0))) (apart_removed is k q.1))

pub angulars_removed : (is : List Item) (k : ℕ) → angulars (remove is k) ≤ angulars is
angulars_removed [] zero = omega arith
angulars_removed [] (suc k) = omega arith
angulars_removed (i ∷ is) zero = omega arith
angulars_removed (i ∷ is) (suc k) = omega (arith, angulars_removed is k)

-- ---- a task in the place of another of the same number and make
place_set : (n : ℕ) (is : List Item) (k : ℕ) (x : Item) → x.number ≡ (get_or is k blank).number → place_of n (set is k x) ≡ place_of n is
place_set n [] k x e = refl
place_set n (i ∷ is) zero x e = ap (λ a. cond (eqb a n) (Some 0) (option_map suc (place_of n is))) e
place_set n (i ∷ is) (suc k) x e = ap (λ o. cond (eqb i.number n) (Some 0) (option_map suc o)) (place_set n is k x e)

apart_set : (is : List Item) (k : ℕ) (x : Item) → x.number ≡ (get_or is k blank).number → apart (set is k x) ≡ apart is
apart_set [] k x e = refl
apart_set (i ∷ is) zero x e = ap (λ a. is_ok (task_numbers a 0) && (not (holds a is) && apart is)) e
apart_set (i ∷ is) (suc k) x e =
    ap (λ o. is_ok (task_numbers i.number 0) && (not (is_some o) && apart (set is k x))) (place_set i.number is k x e)
    ∙ ap (λ b. is_ok (task_numbers i.number 0) && (not (holds i.number is) && b)) (apart_set is k x e)

angulars_set : (is : List Item) (k : ℕ) (x : Item) → is_angular x.make ≡ is_angular (get_or is k blank).make → angulars (set is k x) ≡ angulars is
angulars_set [] k x e = refl
angulars_set (i ∷ is) zero x e = ap (λ b. cond b 1 0 + angulars is) e
angulars_set (i ∷ is) (suc k) x e = ap (λ n. cond (is_angular i.make) 1 0 + n) (angulars_set is k x e)

same_kind : (c : Change) (m : Make) → is_angular (changed_make c m) ≡ is_angular m
same_kind c (sporadic cost period deadline) = refl
same_kind c (angular plan) = refl

pub apart_changed : (is : List Item) (k : ℕ) (c : Change) → apart is ≡ true → apart (changed_at is k c) ≡ true
apart_changed is k c a = apart_set is k _ refl ∙ a

pub angulars_changed : (is : List Item) (k : ℕ) (c : Change) → angulars (changed_at is k c) ≡ angulars is
angulars_changed is k c = angulars_set is k _ (same_kind c (get_or is k blank).make)

-- ---- what is changed is there
no_mode : (G : Graph) (c : Change) → G.modes ≡ 0 → change_answer G c ≡ Ok tt → ⊥
no_mode G (Lower mode cost) z h = omega (arith, z, (told G (Lower mode cost) h).0)
no_mode G (Widen from to gap) z h = omega (arith, z, (told G (Widen from to gap) h).1)
no_mode G (Cut from to) z h = omega (arith, z, (told G (Cut from to) h).1)

pub change_there : (is : List Item) (k : ℕ) (c : Change) → change_answer (task_at (line_of is) k).graph c ≡ Ok tt → k < length is
change_there is k c h = elim (cases_lt k (length is)) [
  | inl l ↦ l
  | inr n ↦ absurd (no_mode (task_at (line_of is) k).graph c (ap (λ t. t.graph.modes) (cond-false _ ((line_of is).at k) nowhere (le-ltb _ _ n))) h)
]

-- ---- the tasks of the table, once another make of a task was put back where it stood
module _ (ts gone after : List Task) (k : ℕ) (old : Task) (m : Made) (c : Change) (b : Bool)
    (within : k < length ts) (was : old ≡ get_or ts k old) (make : make_of m ≡ changed_make c (make_of old.make))
    (out : gone ≡ remove ts k) (back : after ≡ cond b (insert gone k (record { number = old.number; make = m })) gone) (done : b ≡ true) where
  abbrev new : Task
  new = record { number = old.number; make = m }

  put_in : after ≡ insert (remove ts k) k new
  put_in = back ∙ cond-true b (insert gone k new) gone done ∙ ap (λ (xs : List Task). insert xs k new) out

  pub items_changed : map item_of after ≡ changed_at (map item_of ts) k c
  items_changed =
      let e = item_there ts k old within was in
      ap (map item_of) (put_in ∙ put_back ts k new within) ∙ map-set item_of ts k new
      ∙ ap (λ (x : Make). set (map item_of ts) k (record { number = old.number; make = x })) make
      ∙ ap (λ (i : Item). set (map item_of ts) k (record { number = i.number; make = changed_make c i.make })) e
