-- The spellings of lines one after another. Assumes nothing.
use Rattle.std.proofs.Common.{◌≡◌, ℕ, zero, suc, ◌+◌, ◌-◌, ◌<◌, ◌≤◌, List, [], ◌∷◌, ◌++◌, length, get_or, take, drop, Some, None, Ok, Err, Option, Result, sum_by, sym, refl, ap, ◌∙◌, subst, arith}
use Rattle.std.proofs.lemmas.List.{append_assoc, append-nil, length-append, take_more, take-append-drop}
use Rattle.table.specs.Items.{Item, blank}
use Rattle.forms.specs.declared.form.Form.{Form}
use Rattle.forms.specs.Format.{spell}
use Rattle.writer.specs.Output.{overwrite, Wrote, WriteDone}
use Rattle.writer.proofs.Writing.{wrote_more, wrote_length}
use Rattle.save.specs.Saves.{SaveDone, room_answer}
use Rattle.std.specs.Option.{option_to_list, ok_or}
use Rattle.std.proofs.lemmas.List.Sums.{sum_by-cons}
use Rattle.std.proofs.lemmas.Bool.Decides.{nat_tests}
use Rattle.line.specs.declared.refusal.Refusal.{Refusal}
use Rattle.line.specs.declared.refusal.Refusal.TheVariants.{TooShort}
use Rattle.std.specs.List.{filter_map, range_with_len}
use Rattle.save.specs.Slots.{slot_of}
use Rattle.save.proofs.Rights.{Rights}
use Rattle.save.proofs.Slots.{slots_to, slots_more, slots_all, slots_listed}
use Rattle.save.specs.Texts.{item_forms, forms_of, spelled, last_place, trailer_of, text_of}

pub spelled_append : (xs ys : List Form) → spelled (xs ++ ys) ≡ spelled xs ++ spelled ys
spelled_append [] ys = refl
spelled_append (x ∷ xs) ys = ap (λ l. spell x ++ l) (spelled_append xs ys) ∙ sym (append_assoc (spell x) (spelled xs) (spelled ys))

pub spelled_long : (xs ys : List Form) → length (spelled (xs ++ ys)) ≡ length (spelled xs) + length (spelled ys)
spelled_long xs ys = ap length (spelled_append xs ys) ∙ length-append (spelled xs) (spelled ys)

-- What lines take, summed.
pub spelled_sum : (fs : List Form) → sum_by (λ f. length (spell f)) fs ≡ length (spelled fs)
spelled_sum [] = refl
spelled_sum (f ∷ fs) = omega (arith, spelled_sum fs, length-append (spell f) (spelled fs), sum_by-cons (λ g. length (spell g)) f fs)

forms_append : (xs ys : List Item) → forms_of (xs ++ ys) ≡ forms_of xs ++ forms_of ys
forms_append [] ys = refl
forms_append (x ∷ xs) ys = ap (λ l. item_forms x ++ l) (forms_append xs ys) ∙ sym (append_assoc (item_forms x) (forms_of xs) (forms_of ys))

-- One task more.
pub forms_more : (is : List Item) (k : ℕ) → k < length is → forms_of (take (k + 1) is) ≡ forms_of (take k is) ++ item_forms (get_or is k blank)
forms_more is k h =
    let i = get_or is k blank in
    ap forms_of (take_more is k blank h) ∙ forms_append (take k is) (i ∷ []) ∙ ap (λ l. forms_of (take k is) ++ l) (append-nil (item_forms i))

pub text_more : (is : List Item) (k : ℕ) → k < length is → spelled (forms_of (take (k + 1) is)) ≡ spelled (forms_of (take k is)) ++ spelled (item_forms (get_or is k blank))
text_more is k h = ap spelled (forms_more is k h) ∙ spelled_append (forms_of (take k is)) (item_forms (get_or is k blank))

pub text_more_long : (is : List Item) (k : ℕ) → k < length is → length (spelled (forms_of (take (k + 1) is))) ≡ length (spelled (forms_of (take k is))) + length (spelled (item_forms (get_or is k blank)))
text_more_long is k h = ap length (text_more is k h) ∙ length-append (spelled (forms_of (take k is))) (spelled (item_forms (get_or is k blank)))

-- The first tasks take no more than all of them.
pub text_room : (is : List Item) (k : ℕ) → length (spelled (forms_of (take k is))) ≤ length (spelled (forms_of is))
text_room is k =
    let e = ap (λ l. length (spelled l)) (ap forms_of (sym (take-append-drop k is)) ∙ forms_append (take k is) (drop k is)) in
    omega (arith, e, spelled_long (forms_of (take k is)) (forms_of (drop k is)))

last_pushed : (is : List Item) (i : Item) → last_place (is ++ i ∷ []) ≡ length (spelled (forms_of is))
last_pushed [] i = refl
last_pushed (j ∷ []) i = omega (arith, spelled_long (item_forms j) [])
last_pushed (j ∷ (k ∷ is)) i = omega (arith, last_pushed (k ∷ is) i, spelled_long (item_forms j) (forms_of (k ∷ is)))

-- The last of the tasks so far begins where the ones before it end.
pub last_more : (is : List Item) (k : ℕ) → k < length is → last_place (take (k + 1) is) ≡ length (spelled (forms_of (take k is)))
last_more is k h = ap last_place (take_more is k blank h) ∙ last_pushed (take k is) (get_or is k blank)

-- It begins within the text.
pub last_within : (is : List Item) → last_place is ≤ length (spelled (forms_of is))
last_within [] = omega arith
last_within (i ∷ []) = omega arith
last_within (i ∷ (j ∷ is)) = omega (arith, last_within (j ∷ is), spelled_long (item_forms i) (forms_of (j ∷ is)))

pub text_long : (is : List Item) → length (text_of is) ≡ length (spelled (forms_of is)) + length (spell (trailer_of is))
unfolding text_of
text_long is = length-append (spelled (forms_of is)) (spell (trailer_of is))

-- A text that was written at the front.
pub written : (is : List Item) (xs now : List ℕ) (n : ℕ) → Wrote xs 0 (spelled (forms_of is) ++ spell (trailer_of is)) now n → (n ≡ length (text_of is)) × (now ≡ text_of is ++ drop n xs)
unfolding overwrite text_of
written is xs now n w =
    let ys = spelled (forms_of is) ++ spell (trailer_of is) in
    let e : n ≡ length ys = omega (arith, w.ends) in
    (e, w.bytes ∙ ap (λ k. ys ++ drop k xs) (sym w.ends))

-- ---- the slots of a task
-- A slot more, with a line or without.
pub slot_spelled : (f : ℕ → Option Form) (n : ℕ) (g : Form) → Some g ≡ f n → spelled (slots_to f (n + 1)) ≡ spelled (slots_to f n) ++ spell g
slot_spelled f n g e =
    ap spelled (slots_more f n (Some g) (sym e)) ∙ spelled_append (slots_to f n) (g ∷ []) ∙ ap (λ l. spelled (slots_to f n) ++ l) (append-nil (spell g))

pub slot_empty : (f : ℕ → Option Form) (n : ℕ) → None ≡ f n → spelled (slots_to f (n + 1)) ≡ spelled (slots_to f n)
slot_empty f n e = ap spelled (slots_more f n None (sym e) ∙ append-nil (slots_to f n))

slots_on : (f : ℕ → Option Form) (n k m : ℕ) → m ≡ n + k → length (spelled (slots_to f n)) ≤ length (spelled (slots_to f m))
slots_on f n zero m e = let z : n ≡ m = omega arith in omega (arith, ap (λ j. length (spelled (slots_to f j))) z)
slots_on f n (suc k) m e =
    let z : m ≡ n + k + 1 = omega arith in
    omega (arith, slots_on f n k (n + k) refl, ap (λ j. length (spelled (slots_to f j))) z, ap (λ l. length (spelled l)) (slots_more f (n + k) (f (n + k)) refl), spelled_long (slots_to f (n + k)) (option_to_list (f (n + k))))

-- The first slots take no more than all of them.
pub slots_room : (f : ℕ → Option Form) (n m : ℕ) → n ≤ m → length (spelled (slots_to f n)) ≤ length (spelled (slots_to f m))
slots_room f n m h = slots_on f n (m - n) m (omega arith)

-- The line of a slot takes no more than is left for the task.
pub slot_room : (f : ℕ → Option Form) (n : ℕ) (g : Form) (all : List Form) → Some g ≡ f n → n < 273 → slots_to f 273 ≡ all
    → length (spelled (slots_to f n)) + length (spell g) ≤ length (spelled all)
slot_room f n g all e h same =
    let one = ap length (slot_spelled f n g e) ∙ length-append (spelled (slots_to f n)) (spell g) in
    omega (arith, slots_room f (n + 1) 273 (omega arith), ap (λ (l : List Form). length (spelled l)) same)

-- One more slot is written, with a line or without.
pub slot_wrote : (f : ℕ → Option Form) (n : ℕ) (g : Form) (xs mid now : List ℕ) (at p q : ℕ) → Some g ≡ f n
    → Wrote xs at (spelled (slots_to f n)) mid p → Wrote mid p (spell g) now q → Wrote xs at (spelled (slots_to f (n + 1))) now q
slot_wrote f n g xs mid now at p q e a b = subst (λ (l : List ℕ). Wrote xs at l now q) (sym (slot_spelled f n g e)) (wrote_more a b)

pub slot_passed : (f : ℕ → Option Form) (n : ℕ) (xs now : List ℕ) (at q : ℕ) → None ≡ f n → Wrote xs at (spelled (slots_to f n)) now q → Wrote xs at (spelled (slots_to f (n + 1))) now q
slot_passed f n xs now at q e a = subst (λ (l : List ℕ). Wrote xs at l now q) (sym (slot_empty f n e)) a

-- What the lines in all slots of a task take, summed.
pub lines_listed : (is : List Item) (place : ℕ) → place < length is → Rights is
    → sum_by (λ f. length (spell f)) (filter_map (slot_of is place) (range_with_len 0 273)) ≡ length (spelled (item_forms (get_or is place blank)))
lines_listed is place h r =
    let f = slot_of is place in
    spelled_sum (filter_map f (range_with_len 0 273)) ∙ ap (λ l. length (spelled l)) (slots_listed f 273 ∙ slots_all is place h r)

-- ---- the whole text
-- The tasks' lines were written at the front, and the trailer after them.
pub saved : (is : List Item) (xs mid now : List ℕ) (at : ℕ) (o : Option ℕ) (r : Result ℕ Refusal) (end : Form)
    → end ≡ trailer_of is
    → length (spelled (forms_of is)) + length (spell end) ≤ length xs
    → Wrote xs 0 (spelled (forms_of is)) mid at
    → WriteDone mid at (spell end) now o
    → r ≡ ok_or o TooShort
    → SaveDone is xs now r
saved is xs mid now at (Some n) r end e room a b h =
    subst (SaveDone is xs now) (sym h) (written is xs now n (wrote_more a (subst (λ (f : Form). Wrote mid at (spell f) now n) e b)))
saved is xs mid now at None r end e room a b h = absurd (omega (arith, b.0, wrote_length a, a.ends))

-- What the check of the room tells.
pub room_there : (len room : ℕ) → Ok tt ≡ room_answer len room → len ≤ room
room_there len room e = grind (arith, nat_tests)

pub room_lacks : (len room : ℕ) (e : Refusal) → Err e ≡ room_answer len room → (e ≡ TooShort) × (room < len)
room_lacks len room e h = (grind (arith, nat_tests), grind (arith, nat_tests))
