-- A table asks for no more than before after a task was taken out or an accepted change. Assumes nothing.
use Rattle.std.proofs.Common.{◌≡◌, ℕ, suc, ◌+◌, ◌<◌, ◌≤◌, List, length, get_or, Ok, sym, refl, ap, ◌∙◌, subst, inl, inr, arith, length-set, get_or-set_other, get_or-set_same}
use Rattle.std.specs.List.{remove}
use Rattle.std.proofs.lemmas.List.Edits.{length-remove, get_or-remove_below, get_or-remove_above}
use Rattle.std.proofs.lemmas.Bool.{cases_eq, cases_lt, cond-true, cond-false, lt-ltb, le-ltb}
use Rattle.line.specs.Meaning.{Task, task_at}
use Rattle.line.specs.Lawful.{TaskLaws, Lawful}
use Rattle.line.specs.Lighter.{Eased, EasedLine}
use Rattle.line.specs.Changes.{change_answer}
use Rattle.line.specs.declared.change.Change.{Change}
use Rattle.sporadic.proofs.Easing as sporadics
use Rattle.angular.proofs.Easing as angulars
use Rattle.table.specs.Easing.{EasedTable}
use Rattle.table.specs.Items.{Item, Make, sporadic, angular, blank, task_of, line_of, number_at, changed_make, changed_at, past}
use Rattle.table.proofs.Changing.{change_there}

-- A task asks for no more than itself.
pub eased_same : (t : Task) → Eased t t
eased_same t = record {
  graph = record { lighter = record { same = refl; cheaper = λ m. omega arith; rarer = λ a b h e. (h, e, omega arith) }; due = λ m. refl };
  most = λ w h. omega arith;
}

-- ---- a change
make_eased : (m : Make) (c : Change) → change_answer (task_of m).graph c ≡ Ok tt → TaskLaws (task_of m) → TaskLaws (task_of (changed_make c m)) → Eased (task_of (changed_make c m)) (task_of m)
make_eased (sporadic cost period deadline) c h was is =
    let l = was.limits in
    sporadics.changed_eased cost period deadline c (omega (arith, l.some_cost 0 (omega arith), l.cost_fits 0 (omega arith), l.gap_least 0 0 period (omega arith) (omega arith) refl)) h
make_eased (angular plan) c h was is = angulars.changed_eased plan c h was.limits is.limits

module _ (is : List Item) (place : ℕ) (c : Change) (may : change_answer (task_at (line_of is) place).graph c ≡ Ok tt)
    (was : Lawful (line_of is)) (after : Lawful (line_of (changed_at is place c))) where
  abbrev new : Item
  new = record { number = number_at is place; make = changed_make c (get_or is place blank).make }

  there : place < length is
  there = change_there is place c may

  same_count : length (changed_at is place c) ≡ length is
  same_count = length-set is place new

  new_at : get_or (changed_at is place c) place blank ≡ new
  new_at = get_or-set_same is place new blank there

  task_eased : (k : ℕ) → k < length (changed_at is place c) → Eased (task_of (get_or (changed_at is place c) k blank).make) (task_of (get_or is k blank).make)
  task_eased k h = elim (cases_eq k place) [
    | inl e ↦
        let own : Eased (task_of (changed_make c (get_or is place blank).make)) (task_of (get_or is place blank).make) =
        make_eased (get_or is place blank).make c
        (ap (λ (t : Task). change_answer t.graph c) (sym (cond-true _ ((line_of is).at place) _ (lt-ltb _ _ there))) ∙ may)
        (was.each place there)
        (subst (λ (i : Item). TaskLaws (task_of i.make)) new_at (after.each place (omega (arith, there, same_count)))) in
        let moved = subst (λ (i : Item). Eased (task_of i.make) (task_of (get_or is place blank).make)) (sym new_at) own in
        subst (λ n. Eased (task_of (get_or (changed_at is place c) n blank).make) (task_of (get_or is n blank).make)) (sym e) moved
    | inr n ↦ subst (λ (i : Item). Eased (task_of i.make) (task_of (get_or is k blank).make)) (sym (get_or-set_other is place k new blank n)) (eased_same (task_of (get_or is k blank).make))
  ]

  same_number : (k : ℕ) → number_at (changed_at is place c) k ≡ number_at is k
  same_number k = elim (cases_eq k place) [
    | inl e ↦ ap (number_at (changed_at is place c)) e ∙ ap (λ (i : Item). i.number) new_at ∙ ap (number_at is) (sym e)
    | inr n ↦ ap (λ (i : Item). i.number) (get_or-set_other is place k new blank n)
  ]

  pub changed_eased : EasedTable (changed_at is place c) is
  changed_eased = record {
    from = λ k. k;
    numbers = λ k h. same_number k;
    line = record { there = λ k h. omega (arith, h, same_count); order = λ j k l h. l; task = task_eased };
  }

-- ---- a task taken out
module _ (is : List Item) (place : ℕ) (within : place < length is) where
  one_less : length (remove is place) + 1 ≡ length is
  one_less = length-remove is place within

  stood : (k : ℕ) → get_or (remove is place) k blank ≡ get_or is (past place k) blank
  stood k = elim (cases_lt k place) [
    | inl l ↦ get_or-remove_below is place blank k l within ∙ ap (λ n. get_or is n blank) (sym (cond-true _ k (suc k) (lt-ltb _ _ l)))
    | inr g ↦
        let e : k + 1 ≡ suc k = omega arith in
        get_or-remove_above is place blank k g within ∙ ap (λ n. get_or is n blank) (e ∙ sym (cond-false _ k (suc k) (le-ltb _ _ g)))
  ]

  past_is : (k : ℕ) → (k < place → past place k ≡ k) × (place ≤ k → past place k ≡ suc k)
  past_is k = (λ l. cond-true _ k (suc k) (lt-ltb _ _ l), λ g. cond-false _ k (suc k) (le-ltb _ _ g))

  in_order : (j k : ℕ) → j < k → past place j < past place k
  in_order j k l = elim (cases_lt j place) [
    | inl a ↦ elim (cases_lt k place) [
      | inl b ↦ omega (arith, (past_is j).0 a, (past_is k).0 b)
      | inr b ↦ omega (arith, (past_is j).0 a, (past_is k).1 b)
    ]
    | inr a ↦ omega (arith, (past_is j).1 a, (past_is k).1 (omega arith))
  ]

  line_eased : EasedLine (past place) (line_of (remove is place)) (line_of is)
  line_eased = record {
    there = λ k h. elim (cases_lt k place) [ inl a ↦ omega (arith, (past_is k).0 a, within) | inr a ↦ omega (arith, (past_is k).1 a, one_less, h) ];
    order = λ j k l h. in_order j k l;
    task = λ k h. subst (λ (i : Item). Eased (task_of i.make) (task_of (get_or is (past place k) blank).make)) (sym (stood k)) (eased_same (task_of (get_or is (past place k) blank).make));
  }

  pub removed_eased : EasedTable (remove is place) is
  removed_eased = record { from = past place; numbers = λ k h. ap (λ (i : Item). i.number) (stood k); line = line_eased }
