-- A task that may enter leaves the numbers apart. Assumes nothing.
use Rattle.std.proofs.Common.{◌≡◌, ℕ, zero, suc, ◌+◌, ◌<◌, ◌≤◌, Bool, true, false, cond, not, ◌&&◌, eqb, List, [], ◌∷◌, map, length, is_some, is_ok, Some, None, Option, sym, refl, ap, ◌∙◌, arith}
use Rattle.std.specs.List.{insert}
use Rattle.std.specs.Option.{option_map}
use Rattle.std.proofs.lemmas.Bool.Decides.{nat_tests}
use Rattle.std.proofs.lemmas.Bool.{and_parts, and_from, not_from_false}
use Rattle.table.specs.Items.{Item, place_of, is_angular, angulars, apart, enters}
use Rattle.table.specs.Numbers.{task_numbers}
use Rattle.table.specs.Tasks.{item_of}
use Rattle.table.specs.declared.make.Task.{Task}
use Rattle.table.proofs.Reading.{items_inserted}

-- Whether a number is in the table.
abbrev pub holds : ℕ → List Item → Bool
holds n is = is_some (place_of n is)

some_mapped : (o : Option ℕ) → is_some (option_map suc o) ≡ is_some o
some_mapped None = refl
some_mapped (Some k) = refl

pub holds_cons : (n : ℕ) (i : Item) (is : List Item) → holds n (i ∷ is) ≡ cond (eqb i.number n) true (holds n is)
holds_cons n i is = elim (eqb i.number n) as (λ b. is_some (cond b (Some 0) (option_map suc (place_of n is))) ≡ cond b true (holds n is)) [ true ↦ refl | false ↦ some_mapped (place_of n is) ]

-- another task's number is held after an insertion just if it was before
holds_inserted : (n : ℕ) (is : List Item) (k : ℕ) (i : Item) → eqb i.number n ≡ false → holds n (insert is k i) ≡ holds n is
holds_inserted n is zero i e = holds_cons n i is ∙ ap (λ b. cond b true (holds n is)) e
holds_inserted n [] (suc k) i e = holds_cons n i [] ∙ ap (λ b. cond b true false) e
holds_inserted n (j ∷ is) (suc k) i e =
    holds_cons n j (insert is k i) ∙ ap (cond (eqb j.number n) true) (holds_inserted n is k i e) ∙ sym (holds_cons n j is)

pub apart_inserted : (is : List Item) (k : ℕ) (i : Item) → apart is ≡ true → is_ok (task_numbers i.number 0) ≡ true → holds i.number is ≡ false → apart (insert is k i) ≡ true
apart_inserted is zero i a r h = and_from _ _ r (and_from _ _ (not_from_false _ h) a)
apart_inserted [] (suc k) i a r h = and_from _ _ r refl
apart_inserted (j ∷ is) (suc k) i a r h =
    let p = and_parts (is_ok (task_numbers j.number 0)) (not (holds j.number is) && apart is) a in
    let q = and_parts (not (holds j.number is)) (apart is) p.1 in
    let c = sym (holds_cons i.number j is) ∙ h in
    let d : eqb i.number j.number ≡ false = grind (arith, nat_tests, c) in
    let e : holds i.number is ≡ false = grind (arith, nat_tests, c) in
    and_from _ _ p.0 (and_from _ _ (ap not (holds_inserted j.number is k i d) ∙ q.0) (apart_inserted is k i q.1 r e))

pub angulars_inserted : (is : List Item) (k : ℕ) (i : Item) → angulars (insert is k i) ≡ cond (is_angular i.make) 1 0 + angulars is
angulars_inserted is zero i = refl
angulars_inserted [] (suc k) i = refl
angulars_inserted (j ∷ is) (suc k) i = omega (arith, angulars_inserted is k i)

-- what a task that may enter was told
pub record Told (is : List Item) (i : Item) : Type 0 where
  pub few : length is < 16
  pub range : is_ok (task_numbers i.number 0) ≡ true
  pub free : holds i.number is ≡ false
  pub crank : cond (is_angular i.make) 1 0 + angulars is ≤ 8

pub told : (is : List Item) (i : Item) → angulars is ≤ 8 → enters is i ≡ true → Told is i
told is i c e = record {
  few = grind (arith, nat_tests, e);
  range = grind (arith, nat_tests, e);
  free = grind (arith, nat_tests, e);
  crank = grind (arith, nat_tests, e, c);
}

-- a table's tasks after a task that may enter was inserted, or found no memory
module _ (ts after : List Task) (k : ℕ) (t : Task) (b : Bool) (items : after ≡ cond b (insert ts k t) ts) (h : Told (map item_of ts) (item_of t)) where
  pub still_apart : apart (map item_of ts) ≡ true → apart (map item_of after) ≡ true
  still_apart a = go b items
    where
      go : (b : Bool) → after ≡ cond b (insert ts k t) ts → apart (map item_of after) ≡ true
      go true e = ap (λ (xs : List Task). apart (map item_of xs)) e ∙ ap apart (items_inserted ts k t) ∙ apart_inserted (map item_of ts) k (item_of t) a h.range h.free
      go false e = ap (λ (xs : List Task). apart (map item_of xs)) e ∙ a

  pub still_few_angulars : angulars (map item_of ts) ≤ 8 → angulars (map item_of after) ≤ 8
  still_few_angulars a = go b items
    where
      go : (b : Bool) → after ≡ cond b (insert ts k t) ts → angulars (map item_of after) ≤ 8
      go true e = let f = ap (λ (xs : List Task). angulars (map item_of xs)) e ∙ ap angulars (items_inserted ts k t) ∙ angulars_inserted (map item_of ts) k (item_of t) in omega (arith, f, h.crank)
      go false e = let f = ap (λ (xs : List Task). angulars (map item_of xs)) e in omega (arith, f, a)
