-- A saved text is not too long to be loaded. Assumes nothing.
use Rattle.std.proofs.Common.{◌≡◌, ℕ, zero, suc, ◌+◌, ◌*◌, ◌/◌, ◌%◌, ◌<◌, ◌≤◌, Bool, true, false, cond, not, ◌&&◌, List, [], ◌∷◌, ◌++◌, map, length, get_or, is_some, is_ok, Some, None, Option, arith}
use Rattle.std.proofs.lemmas.Fmt.{length-decimal-le}
use Rattle.std.proofs.lemmas.List.{length-append}
use Rattle.std.proofs.lemmas.Bool.{and_parts}
use Rattle.modes.specs.Plans.{RightModes}
use Rattle.modes.specs.declared.graph.Mode.{Mode}
use Rattle.table.specs.Numbers.{task_numbers}
use Rattle.table.specs.Items.{Item, Make, blank, sporadic, angular, is_angular, angulars, place_of, apart}
use Rattle.forms.specs.declared.form.Form.TheVariants as form
use Rattle.forms.specs.Format.{field, spell, Sound}
use Rattle.save.specs.Texts.{mode_form, links_from, make_forms, item_forms, forms_of, spelled, last_place, trailer_of, text_of}
use Rattle.save.proofs.Rights.{RightMake, Rights, Together, RightFrom, cells_right, mode_limits, gap_limits, number_limits}
use Rattle.save.proofs.Spelling.{spelled_long, last_within, text_long}

-- How long each form is.
sporadic_long : (n c t d : ℕ) → length (field n) + length (field c) + length (field t) + length (field d) + 9 ≡ length (spell (form.Sporadic n c t d))
unfolding spell
sporadic_long n c t d = simp length-append (omega arith)

angular_long : (n : ℕ) → length (field n) + 8 ≡ length (spell (form.Angular n))
unfolding spell
angular_long n = simp length-append (omega arith)

mode_long : (c d : ℕ) → length (field c) + length (field d) + 5 ≡ length (spell (form.Mode c d))
unfolding spell
mode_long c d = simp length-append (omega arith)

link_long : (a b p : ℕ) → length (field a) + length (field b) + length (field p) + 5 ≡ length (spell (form.Link a b p))
unfolding spell
link_long a b p = simp length-append (omega arith)

end_long : (k z : ℕ) → length (field k) + length (field z) + 4 ≡ length (spell (form.End k z))
unfolding spell
end_long k z = simp length-append (omega arith)

-- A space and at most six digits.
field_short : (n : ℕ) → n < 1000000 → length (field n) ≤ 7
field_short n h = let l = length-decimal-le 6 n (omega arith) (omega arith) (omega arith) in omega arith

modes_short : (ms : List Mode) → RightModes ms → length (spelled (map mode_form ms)) ≤ 19 * length ms
modes_short [] r = omega arith
modes_short (m ∷ ms) r =
    let l = mode_limits m (r 0 (omega arith)) in
    let a = field_short m.cost (omega arith) in
    let b = field_short m.deadline (omega arith) in
    let long = mode_long m.cost m.deadline in
    let later = modes_short ms (λ k h. r (suc k) (omega arith)) in
    omega (arith, length-append (spell (mode_form m)) (spelled (map mode_form ms)))

links_short : (modes : List Mode) → length modes ≤ 16 → (c : ℕ) (gs : List (Option ℕ)) → RightFrom modes c gs → length (spelled (links_from c gs)) ≤ 26 * length gs
links_short modes few c [] r = omega arith
links_short modes few c (None ∷ gs) r = omega (arith, links_short modes few (suc c) gs r.1)
links_short modes few c (Some g ∷ gs) r =
    let l = gap_limits modes (c / 16) (c % 16) g r.0 in
    let a = field_short (c / 16) (omega arith) in
    let b = field_short (c % 16) (omega arith) in
    let p = field_short g (omega arith) in
    let long = link_long (c / 16) (c % 16) g in
    let later = links_short modes few (suc c) gs r.1 in
    omega (arith, length-append (spell (form.Link (c / 16) (c % 16) g)) (spelled (links_from (suc c) gs)))

make_short : (n : ℕ) (m : Make) → n ≤ 999 → RightMake m → length (spelled (make_forms n m)) ≤ 37 + 6938 * cond (is_angular m) 1 0
make_short n (sporadic cost period deadline) h r =
    let a = field_short n (omega arith) in
    let b = field_short cost (omega (arith, r.fits, r.near)) in
    let c = field_short period (omega (arith, r.often)) in
    let d = field_short deadline (omega (arith, r.near)) in
    let long = sporadic_long n cost period deadline in
    omega (arith, length-append (spell (form.Sporadic n cost period deadline)) [])
make_short n (angular p) h r =
    let a = field_short n (omega arith) in
    let long = angular_long n in
    let ms = modes_short p.modes r.limits in
    let ls = links_short p.modes r.few 0 p.gaps (cells_right p r) in
    let both = spelled_long (map mode_form p.modes) (links_from 0 p.gaps) in
    omega (arith, r.few, r.square, length-append (spell (form.Angular n)) (spelled (map mode_form p.modes ++ links_from 0 p.gaps)))

crank_one : (b : Bool) → cond b 1 0 ≤ 1
crank_one true = omega arith
crank_one false = omega arith

items_short : (is : List Item) → apart is ≡ true → Rights is → length (spelled (forms_of is)) ≤ 37 * length is + 6938 * angulars is
items_short [] a r = omega arith
items_short (i ∷ is) a r =
    let p = and_parts (is_ok (task_numbers i.number 0)) (not (is_some (place_of i.number is)) && apart is) a in
    let q = and_parts (not (is_some (place_of i.number is))) (apart is) p.1 in
    let n = number_limits i.number p.0 in
    let one = make_short i.number i.make n.1 r.0 in
    let later = items_short is q.1 r.1 in
    omega (arith, spelled_long (item_forms i) (forms_of is))

item_short : (is : List Item) (k : ℕ) → k < length is → apart is ≡ true → Rights is → length (spelled (item_forms (get_or is k blank))) ≤ 6975
item_short [] k h a r = absurd (omega arith)
item_short (i ∷ is) zero h a r =
    let p = and_parts (is_ok (task_numbers i.number 0)) (not (is_some (place_of i.number is)) && apart is) a in
    omega (arith, make_short i.number i.make (number_limits i.number p.0).1 r.0, crank_one (is_angular i.make))
item_short (i ∷ is) (suc k) h a r =
    let p = and_parts (is_ok (task_numbers i.number 0)) (not (is_some (place_of i.number is)) && apart is) a in
    let q = and_parts (not (is_some (place_of i.number is))) (apart is) p.1 in
    item_short is k (omega (arith, h)) q.1 r.1

-- The lines of one task.
pub task_short : (is : List Item) (k : ℕ) → k < length is → Together is → Rights is → length (spelled (item_forms (get_or is k blank))) ≤ 6975
task_short is k h t r = item_short is k h t.distinct r

pub lines_short : (is : List Item) → Together is → Rights is → length (spelled (forms_of is)) ≤ 56096
lines_short is t r = omega (arith, t.few, t.crank, items_short is t.distinct r)

-- The trailer's numbers have at most six digits.
pub trailer_sound : (is : List Item) → Together is → Rights is → Sound (trailer_of is)
trailer_sound is t r = (omega (arith, t.few), (omega (arith, lines_short is t r, last_within is), tt))

pub text_short : (is : List Item) → Together is → Rights is → length (text_of is) ≤ 65535
text_short is t r =
    let s = trailer_sound is t r in
    let a = field_short (length is) s.0 in
    let b = field_short (last_place is) s.1.0 in
    let long = end_long (length is) (last_place is) in
    omega (arith, text_long is, lines_short is t r)
