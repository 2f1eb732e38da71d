-- A table that asks for no more has no greater bounds: so it is after take, and after a change. Assumes nothing.
use Rattle.std.proofs.Common.{◌≡◌, ℕ, cond, List, length, is_ok, IfOk, Ok, Err, sym, ap, ◌∙◌, subst}
use Rattle.std.specs.List.{remove}
use Rattle.line.specs.Answers.{Answer, and_then, sheet_answer}
use Rattle.line.specs.Changes.{change_numbers}
use Rattle.line.specs.Lawful.{Lawful}
use Rattle.line.specs.declared.change.Change.{Change}
use Rattle.table.specs.Easing.{EasedTable}
use Rattle.table.specs.Numbers.{task_numbers}
use Rattle.table.specs.Items.{Item, line_of, place_of, without, changed_at}
use Rattle.table.proofs.Easing.{changed_eased, removed_eased}
use Rattle.response.proofs.Easing.{bounds_ease, fits_still}
use Rattle.editor.specs.Desks as desks
use Rattle.editor.proofs.Passing.{second}
use Rattle.editor.proofs.Finding.{place_within, take_place, change_place}
use Rattle.bench.specs.Easing.{Eases}
use Rattle.bench.specs.State.{State, edited, no_run, take_answer, after_take, ChangeDone}

eases : (is was : List Item) → EasedTable is was → Eases is was
eases is was e = record {
  tasks = e;
  bounds = bounds_ease e.from (line_of is) (line_of was) e.line;
  fits = fits_still e.from (line_of is) (line_of was) e.line;
}

same_tasks : (s t : State) → t ≡ s → t.desk.tasks ≡ s.desk.tasks
same_tasks s t e = ap (λ (x : State). x.desk.tasks) e

pub take_eases : (s t : State) (number : ℕ) (r : Answer) → r ≡ take_answer s number → t ≡ after_take s number → IfOk r (λ _. Eases t.desk.tasks s.desk.tasks)
take_eases s t number (Err e) answer after = tt
take_eases s t number (Ok u) answer after =
    let is = s.desk.tasks in
    let asked : take_answer s number ≡ Ok tt = sym answer in
    let desk_took = second (no_run s) (desks.take_answer s.desk number) (second (task_numbers number 0) (and_then (no_run s) (desks.take_answer s.desk number)) asked) in
    let p = take_place s.desk number desk_took in
    let accepted = ap (λ (x : Answer). cond (is_ok x) (edited s (desks.after_take s.desk number)) s) (sym answer) in
    let gone = ap (λ (x : Answer). (cond (is_ok x) (desks.with_tasks s.desk (without is (place_of number is))) s.desk).tasks) desk_took ∙ ap (without is) p.1 in
    subst (λ (xs : List Item). Eases xs is) (sym (same_tasks (edited s (desks.after_take s.desk number)) t (after ∙ accepted) ∙ gone))
    (eases (remove is p.0) is (removed_eased is p.0 (place_within number is p.0 p.1)))

pub change_eases : (s t : State) (number : ℕ) (c : Change) (sheet sheet' : List ℕ) (r : Answer) → ChangeDone s number c sheet r t sheet' → Lawful (line_of s.desk.tasks) → Lawful (line_of t.desk.tasks)
    → IfOk r (λ _. Eases t.desk.tasks s.desk.tasks)
change_eases s t number c sheet sheet' (Err e) done was is = tt
change_eases s t number c sheet sheet' (Ok u) done was is =
    let own = desks.changing_answer s.desk number c (length sheet) in
    let after_sheet = and_then (no_run s) own in
    let after_numbers = and_then (sheet_answer (length sheet)) after_sheet in
    let numbers = second (task_numbers number 0) (and_then (change_numbers c) after_numbers) done.0 in
    let desk_changed = second (no_run s) own (second (sheet_answer (length sheet)) after_sheet (second (change_numbers c) after_numbers numbers)) in
    let p = change_place s.desk number c (length sheet) desk_changed in
    let same = same_tasks (edited s (desks.after_changing s.desk number c)) t done.1 ∙ ap (λ o. desks.changed_where s.desk.tasks o c) p.1 in
    let law = subst (λ (xs : List Item). Lawful (line_of xs)) same is in
    subst (λ (xs : List Item). Eases xs s.desk.tasks) (sym same)
    (eases (changed_at s.desk.tasks p.0 c) s.desk.tasks (changed_eased s.desk.tasks p.0 c p.2 was law))
