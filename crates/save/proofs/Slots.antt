-- The lines in a task's slots are the task's lines. Assumes nothing.
use Rattle.std.proofs.Common.{◌≡◌, ℕ, zero, suc, ◌+◌, ◌-◌, ◌*◌, ◌/◌, ◌%◌, ◌<◌, ◌≤◌, Bool, true, false, cond, eqb, ltb, List, [], ◌∷◌, ◌++◌, map, length, get_or, take, Some, None, Option, sym, refl, ap, ◌∙◌, ⊎_elim, zero-add, add-one, arith}
use Rattle.std.specs.List.{cons_option, filter_map, range_with_len}
use Rattle.std.specs.Option.{option_map, option_to_list}
use Rattle.std.proofs.lemmas.List.Elements.{filter_map-append}
use Rattle.std.proofs.lemmas.List.{append_assoc, append-nil, map-append, take_more, take_all, length-take-le}
use Rattle.std.proofs.lemmas.Bool.{cond-true, cond-false, lt-ltb, le-ltb, eq-eqb, ne_eqb, cases_lt}
use Rattle.line.specs.Meaning.{Task, task_at, gap_in}
use Rattle.modes.specs.Plans.{Plan, right_gap}
use Rattle.modes.specs.Plans as plans
use Rattle.sporadic.specs.Tasks.{sporadic_task}
use Rattle.angular.specs.Tasks.{angular_task}
use Rattle.table.specs.Items.{Item, Make, sporadic, angular, blank, task_of, is_angular, number_at, line_of}
use Rattle.forms.specs.declared.form.Form.{Form}
use Rattle.forms.specs.declared.form.Form.TheVariants as form
use Rattle.save.specs.Texts.{mode_form, links_from, make_forms, item_forms}
use Rattle.save.specs.Slots.{first_in, mode_in, link_in, slot_in, slot_of}
use Rattle.save.proofs.Rights.{RightPlan, RightMake, Rights, right_at, gap_limits}

-- The lines in the first n slots.
unfoldable pub slots_to : (ℕ → Option Form) → ℕ → List Form
slots_to f zero = []
slots_to f (suc n) = slots_to f n ++ option_to_list (f n)

pub slots_none : (f : ℕ → Option Form) → slots_to f 0 ≡ []
unfolding slots_to
slots_none f = refl

slots_suc : (f : ℕ → Option Form) (n : ℕ) → slots_to f (suc n) ≡ slots_to f n ++ option_to_list (f n)
unfolding slots_to
slots_suc f n = refl

pub slots_more : (f : ℕ → Option Form) (n : ℕ) (o : Option Form) → f n ≡ o → slots_to f (n + 1) ≡ slots_to f n ++ option_to_list o
slots_more f n o e = ap (slots_to f) (add-one n) ∙ slots_suc f n ∙ ap (λ (x : Option Form). slots_to f n ++ option_to_list x) e

counted_on : (a n j : ℕ) → j ≡ a + n → range_with_len a (suc n) ≡ range_with_len a n ++ j ∷ []
counted_on a zero j e = let same : a ≡ j = omega arith in ap (λ k. k ∷ []) same
counted_on a (suc n) j e = ap (λ l. a ∷ l) (counted_on (a + 1) n j (omega arith))

one_slot : (o : Option Form) → cons_option o [] ≡ option_to_list o
one_slot None = refl
one_slot (Some g) = refl

-- The slots gone through by number, without the empty ones.
pub slots_listed : (f : ℕ → Option Form) (n : ℕ) → filter_map f (range_with_len 0 n) ≡ slots_to f n
unfolding slots_to
slots_listed f zero = refl
slots_listed f (suc n) =
    ap (filter_map f) (counted_on 0 n n (sym (zero-add n)))
    ∙ filter_map-append f (range_with_len 0 n) (n ∷ [])
    ∙ (λ i. slots_listed f n i ++ one_slot (f n) i)

-- ---- a sporadic task
module _ (number cost period deadline : ℕ) where
  only_first : (n : ℕ) → slots_to (slot_in number false (sporadic_task cost period deadline)) (suc n) ≡ form.Sporadic number cost period deadline ∷ []
  unfolding slots_to
  only_first zero = refl
  only_first (suc n) =
      let f = slot_in number false (sporadic_task cost period deadline) in
      let e : f (suc n) ≡ None = cond-false _ _ _ (ne_eqb (suc n) 0 (λ h. omega arith)) in
      ap (λ (o : Option Form). slots_to f (suc n) ++ option_to_list o) e ∙ append-nil (slots_to f (suc n)) ∙ only_first n

-- ---- an angular task
-- The links among the first gaps, with one more.
links_more : (c : ℕ) (gs : List (Option ℕ)) (o : Option ℕ) (n : ℕ) → n ≡ c + length gs → links_from c (gs ++ o ∷ []) ≡ links_from c gs ++ option_to_list (option_map (form.Link (n / 16) (n % 16)) o)
links_more c [] None n e = refl
links_more c [] (Some g) n e = let z : c ≡ n = omega arith in ap (λ k. form.Link (k / 16) (k % 16) g ∷ []) z
links_more c (None ∷ gs) o n e = links_more (suc c) gs o n (omega arith)
links_more c (Some g ∷ gs) o n e = ap (λ l. form.Link (c / 16) (c % 16) g ∷ l) (links_more (suc c) gs o n (omega arith))

module _ (number : ℕ) (p : Plan) (right : RightPlan p) where
  unfoldable slot : ℕ → Option Form
  slot = slot_in number true (angular_task p)

  mode_slot : (k : ℕ) → k < 16 → slot (suc k) ≡ cond (ltb k (length p.modes)) (Some (mode_form (get_or p.modes k plans.blank))) None
  unfolding slot
  mode_slot k h =
      let a : eqb (suc k) 0 ≡ false = ne_eqb (suc k) 0 (λ e. omega arith) in
      let b : ltb 16 (suc k) ≡ false = le-ltb 16 (suc k) (omega arith) in
      let c : suc k - 1 ≡ k = omega arith in
      let m = get_or p.modes k plans.blank in
      let same : mode_in (angular_task p) k ≡ cond (ltb k (length p.modes)) (Some (mode_form m)) None =
      elim (ltb k (length p.modes)) as (λ x. cond x (Some (form.Mode (cond x m.cost 0) (cond x m.deadline 0))) None ≡ cond x (Some (mode_form m)) None) [ true ↦ refl | false ↦ refl ]
      in
      cond-false _ _ _ a ∙ cond-false _ _ _ b ∙ ap (mode_in (angular_task p)) c ∙ same

  modes_to : (k : ℕ) → k ≤ 16 → slots_to slot (suc k) ≡ form.Angular number ∷ map mode_form (take k p.modes)
  unfolding slots_to slot
  modes_to zero h = refl
  modes_to (suc k) h =
      let ms = p.modes in
      let front = ap (λ l. l ++ option_to_list (slot (suc k))) (modes_to k (omega arith)) in
      let here = mode_slot k (omega arith) in
      ⊎_elim
      (λ lt.
      let more : take (suc k) ms ≡ take k ms ++ get_or ms k plans.blank ∷ [] = ap (λ n. take n ms) (sym (add-one k)) ∙ take_more ms k plans.blank lt in
      let one : slot (suc k) ≡ Some (mode_form (get_or ms k plans.blank)) = here ∙ cond-true _ _ _ (lt-ltb k (length ms) lt) in
      front ∙ ap (λ (o : Option Form). form.Angular number ∷ (map mode_form (take k ms) ++ option_to_list o)) one
      ∙ ap (λ l. form.Angular number ∷ l) (sym (map-append mode_form (take k ms) (get_or ms k plans.blank ∷ [])) ∙ ap (map mode_form) (sym more)))
      (λ ge.
      let none : slot (suc k) ≡ None = here ∙ cond-false _ _ _ (le-ltb k (length ms) ge) in
      let same : take k ms ≡ take (suc k) ms = take_all k ms ge ∙ sym (take_all (suc k) ms (omega arith)) in
      front ∙ ap (λ (o : Option Form). form.Angular number ∷ (map mode_form (take k ms) ++ option_to_list o)) none
      ∙ ap (λ l. form.Angular number ∷ l) (append-nil (map mode_form (take k ms)) ∙ ap (map mode_form) same))
      (cases_lt k (length ms))

  gap_cell : (k : ℕ) → gap_in (angular_task p) (k / 16) (k % 16) ≡ get_or p.gaps k None
  gap_cell k =
      let cell : k / 16 * 16 + k % 16 ≡ k = omega arith in
      let gap = ap (λ n. get_or p.gaps n None) cell in
      gone (get_or p.gaps (k / 16 * 16 + k % 16) None) (right.links (k / 16) (k % 16) (omega arith)) ∙ gap
    where
      none : (x y : Bool) → ◌≡◌ {A = Option ℕ} (cond x (cond y None None) None) None
      none true true = refl
      none true false = refl
      none false y = refl

      gone : (o : Option ℕ) → right_gap p.modes (k / 16) (k % 16) o ≡ true → cond (ltb (k / 16) (length p.modes)) (cond (ltb (k % 16) (length p.modes)) o None) None ≡ o
      gone None h = none (ltb (k / 16) (length p.modes)) (ltb (k % 16) (length p.modes))
      gone (Some g) h =
          let q = gap_limits p.modes (k / 16) (k % 16) g h in
          cond-true _ _ _ (lt-ltb (k / 16) (length p.modes) q.0) ∙ cond-true _ _ _ (lt-ltb (k % 16) (length p.modes) q.1)

  link_slot : (k : ℕ) → slot (17 + k) ≡ option_map (form.Link (k / 16) (k % 16)) (get_or p.gaps k None)
  unfolding slot
  link_slot k =
      let a : eqb (17 + k) 0 ≡ false = ne_eqb (17 + k) 0 (λ e. omega arith) in
      let b : ltb 16 (17 + k) ≡ true = lt-ltb 16 (17 + k) (omega arith) in
      let c : 17 + k - 17 ≡ k = omega arith in
      cond-false _ _ _ a ∙ cond-true _ _ _ b ∙ ap (link_in (angular_task p)) c ∙ ap (option_map (form.Link (k / 16) (k % 16))) (gap_cell k)

  links_to : (k : ℕ) → k ≤ 256 → (m : ℕ) → m ≡ 17 + k → slots_to slot m ≡ form.Angular number ∷ (map mode_form p.modes ++ links_from 0 (take k p.gaps))
  links_to zero h m e =
      ap (slots_to slot) e ∙ modes_to 16 (omega arith)
      ∙ ap (λ ms. form.Angular number ∷ map mode_form ms) (take_all 16 p.modes right.few)
      ∙ ap (λ l. form.Angular number ∷ l) (sym (append-nil (map mode_form p.modes)))
  links_to (suc k) h m e =
      let gs = p.gaps in
      let o = get_or gs k None in
      let ms = map mode_form p.modes in
      let n : m ≡ suc (17 + k) = omega arith in
      let lt : k < length gs = omega (arith, right.square) in
      let more : take (suc k) gs ≡ take k gs ++ o ∷ [] = ap (λ j. take j gs) (sym (add-one k)) ∙ take_more gs k None lt in
      let long : k ≡ 0 + length (take k gs) = sym (length-take-le k gs (omega arith)) ∙ sym (zero-add (length (take k gs))) in
      ap (slots_to slot) n ∙ slots_suc slot (17 + k)
      ∙ (λ i. links_to k (omega arith) (17 + k) refl i ++ option_to_list (link_slot k i))
      ∙ ap (λ l. form.Angular number ∷ l)
      (append_assoc ms (links_from 0 (take k gs)) (option_to_list (option_map (form.Link (k / 16) (k % 16)) o))
      ∙ ap (λ l. ms ++ l) (sym (links_more 0 (take k gs) o k long) ∙ ap (links_from 0) (sym more)))

angular_slots : (number : ℕ) (p : Plan) (r : RightPlan p) → slots_to (slot_in number true (angular_task p)) 273 ≡ make_forms number (angular p)
unfolding slot
angular_slots number p r =
    links_to number p r 256 (omega arith) 273 refl
    ∙ ap (λ gs. form.Angular number ∷ (map mode_form p.modes ++ links_from 0 gs)) (take_all 256 p.gaps (omega (arith, r.square)))

by_make : (number : ℕ) (m : Make) → RightMake m → slots_to (slot_in number (is_angular m) (task_of m)) 273 ≡ make_forms number m
by_make number (sporadic cost period deadline) r = only_first number cost period deadline 272
by_make number (angular p) r = angular_slots number p r

-- The lines in all slots of the task at a place are its lines.
pub slots_all : (is : List Item) (place : ℕ) → place < length is → Rights is → slots_to (slot_of is place) 273 ≡ item_forms (get_or is place blank)
unfolding slot_of
slots_all is place h r =
    let i = get_or is place blank in
    let there : task_at (line_of is) place ≡ task_of i.make = cond-true _ _ _ (lt-ltb place (length is) h) in
    ap (λ (t : Task). slots_to (slot_in i.number (is_angular i.make) t) 273) there ∙ by_make i.number i.make (right_at is place h r)

-- ---- the slot that the code reads
module _ (is : List Item) (place slot : ℕ) where
  pub slot_first : (f : Form) → slot ≡ 0 → f ≡ first_in (number_at is place) (is_angular (get_or is place blank).make) (task_at (line_of is) place) → Some f ≡ slot_of is place slot
  unfolding slot_of
  slot_first f z e = ap Some e ∙ sym (cond-true _ _ _ (eq-eqb slot 0 z))

  pub slot_alone : (slot ≡ 0 → ⊥) → is_angular (get_or is place blank).make ≡ false → None ≡ slot_of is place slot
  unfolding slot_of
  slot_alone z a = sym (cond-false _ _ _ (ne_eqb slot 0 z) ∙ cond-false _ _ _ a)

  pub slot_link : (o : Option Form) → (slot ≡ 0 → ⊥) → is_angular (get_or is place blank).make ≡ true → 16 < slot → o ≡ link_in (task_at (line_of is) place) (slot - 1 - 16) → o ≡ slot_of is place slot
  unfolding slot_of
  slot_link o z a h e =
      let k : slot - 1 - 16 ≡ slot - 17 = omega arith in
      e ∙ ap (link_in (task_at (line_of is) place)) k ∙ sym (cond-false _ _ _ (ne_eqb slot 0 z) ∙ cond-true _ _ _ a ∙ cond-true _ _ _ (lt-ltb 16 slot h))

  pub slot_mode : (o : Option Form) → (slot ≡ 0 → ⊥) → is_angular (get_or is place blank).make ≡ true → slot ≤ 16 → o ≡ mode_in (task_at (line_of is) place) (slot - 1) → o ≡ slot_of is place slot
  unfolding slot_of
  slot_mode o z a h e = e ∙ sym (cond-false _ _ _ (ne_eqb slot 0 z) ∙ cond-true _ _ _ a ∙ cond-false _ _ _ (le-ltb 16 slot h))
