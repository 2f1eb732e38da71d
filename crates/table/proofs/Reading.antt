-- Reading the tasks of a table one by one. Assumes nothing.
use Rattle.std.proofs.Common.{◌≡◌, ℕ, suc, ◌+◌, ◌<◌, Bool, true, false, cond, not, eqb, ltb, List, [], ◌∷◌, map, length, get_or, Some, None, sym, refl, ap, ◌∙◌, inl, inr, arith}
use Rattle.std.specs.List.{insert, position, position_or_len, count_by}
use Rattle.std.proofs.lemmas.List.Recursion.{is_sum_by}
use Rattle.std.specs.Option.{option_map}
use Rattle.std.proofs.lemmas.List.{map-append, take-map, drop-map, get_or-map}
use Rattle.std.proofs.lemmas.Bool.{cases_lt, cond-true, cond-false, lt-ltb, le-ltb}
use Rattle.table.specs.Items.{blank, place_of, is_angular, angulars}
use Rattle.table.specs.Tasks.{make_of, item_of}
use Rattle.table.specs.declared.make.Task.{Task}

pub items_inserted : (ts : List Task) (i : ℕ) (t : Task) → map item_of (insert ts i t) ≡ insert (map item_of ts) i (item_of t)
items_inserted ts i t = simp (map-append, take-map, drop-map)

-- the task read at a place
pub item_there : (ts : List Task) (k : ℕ) (t : Task) → k < length ts → t ≡ get_or ts k t → item_of t ≡ get_or (map item_of ts) k blank
item_there ts k t h e = ap item_of e ∙ sym (get_or-map item_of ts k t blank h)

-- where the first element that passes stands, once an element was put in front
one_first : (b : Bool) (k l : ℕ) → cond (ltb (cond (not b) (1 + k) 0) (suc l)) (Some (cond (not b) (1 + k) 0)) None ≡ cond b (Some 0) (option_map suc (cond (ltb k l) (Some k) None))
one_first true k l = cond-true _ (Some 0) None (lt-ltb 0 (suc l) (omega arith))
one_first false k l = elim (cases_lt k l) [
  | inl h ↦ cond-true _ (Some (1 + k)) None (lt-ltb (1 + k) (suc l) (omega arith)) ∙ ap Some (omega arith) ∙ ap (option_map suc) (sym (cond-true _ (Some k) None (lt-ltb k l h)))
  | inr h ↦ cond-false _ (Some (1 + k)) None (le-ltb (1 + k) (suc l) (omega arith)) ∙ ap (option_map suc) (sym (cond-false _ (Some k) None (le-ltb k l h)))
]

-- the first task of a number
pub first_place : (n : ℕ) (ts : List Task) → position (λ t. eqb t.number n) ts ≡ place_of n (map item_of ts)
first_place n [] = refl
first_place n (t ∷ ts) =
    one_first (eqb t.number n) (position_or_len (λ (x : Task). eqb x.number n) ts) (length ts)
    ∙ ap (λ o. cond (eqb t.number n) (Some 0) (option_map suc o)) (first_place n ts)

-- how many tasks are angular
pub counted : (ts : List Task) → angulars (map item_of ts) ≡ count_by (λ t. is_angular (make_of t.make)) ts
counted = is_sum_by (λ ts. angulars (map item_of ts)) (λ t. cond (is_angular (make_of t.make)) 1 0) refl (λ t ts. refl)
