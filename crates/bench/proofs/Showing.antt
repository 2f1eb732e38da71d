-- What the table shows of the task at a place, the bench shows of the task of that number. Assumes nothing.
use Rattle.std.proofs.Common.{◌≡◌, ℕ, ◌<◌, cond, ◌||◌, ltb, leb, List, length, is_some, Some, Ok, Err, Option, Result, sym, ap, ◌∙◌, subst}
use Rattle.std.proofs.lemmas.Bool.{lt-leb}
use Rattle.line.specs.declared.refusal.Refusal.{Refusal}
use Rattle.line.specs.declared.refusal.Refusal.TheVariants.{OutOfRange, TooShort, NotThere}
use Rattle.line.specs.Answers.{Answer, and_then}
use Rattle.line.specs.Shows as lines
use Rattle.table.specs.Numbers.{task_numbers}
use Rattle.table.specs.Items.{Item, line_of, place_of}
use Rattle.table.specs.Tables.{table_leaves}
use Rattle.editor.proofs.Finding.{place_within}
use Rattle.bench.specs.State.{State}
use Rattle.bench.specs.Shows.{show_answer, WalkShown, ShowDone}

module _ (s : State) (number place window : ℕ) (u : Unit {0}) (range : Ok u ≡ task_numbers number 0) (found : Some place ≡ place_of number s.desk.tasks) (low : place < 16) where
  abbrev is : List Item
  is = s.desk.tasks

  -- The bench refuses as the table does.
  same_answer : (sheet list : ℕ) → show_answer s number window sheet list ≡ lines.show_answer (length is) place window sheet list
  same_answer sheet list =
      ap (λ (x : Answer). and_then x (cond (ltb 1000 window) (Err OutOfRange) (cond (ltb sheet 16016 || ltb list 1000) (Err TooShort) (cond (is_some (place_of number is)) (Ok tt) (Err NotThere))))) (sym range)
      ∙ ap (λ o. cond (ltb 1000 window) (Err OutOfRange) (cond (ltb sheet 16016 || ltb list 1000) (Err TooShort) (cond (is_some o) (Ok tt) (Err NotThere)))) (sym found)
      ∙ sym (
      ap (λ b. cond (b || ltb 1000 window) (Err OutOfRange) (cond (ltb sheet 16016 || ltb list 1000) (Err TooShort) (cond (leb (length is) place) (Err NotThere) (Ok tt)))) (lt-leb _ _ low)
      ∙ ap (λ b. cond (ltb 1000 window) (Err OutOfRange) (cond (ltb sheet 16016 || ltb list 1000) (Err TooShort) (cond b (Err NotThere) (Ok tt)))) (lt-leb _ _ (place_within number is place (sym found)))
      )

  pub shows : (sheet sheet' list list' : List ℕ) (r : Result ℕ Refusal)
      → lines.ShowDone (line_of is) (table_leaves is place) place window sheet sheet' list list' r
      → ShowDone s number window sheet sheet' list list' r
  shows sheet sheet' list list' (Ok n) (answer, shown, leaves) =
      (same_answer (length sheet) (length list) ∙ answer, subst (λ (o : Option ℕ). WalkShown is o window n sheet sheet' list list') found (shown, leaves))
  shows sheet sheet' list list' (Err e) (answer, kept, stays) = (same_answer (length sheet) (length list) ∙ answer, kept, stays)
