-- Tasks that are appended, and what their closes make of the work sheet. Assumes nothing.
use Rattle.std.proofs.Common.{◌≡◌, ℕ, ◌<◌, min, true, List, [], ◌∷◌, ◌++◌, length, take, drop, is_some, is_ok, Some, None, Ok, Err, Option, sym, refl, ap, ◌∙◌, subst, arith}
use Rattle.std.proofs.lemmas.List.{drop_all, take_all}
use Rattle.std.specs.Option.{option_map}
use Rattle.std.proofs.lemmas.Bool.{cond-true, eqb-true, false≢true}
use Rattle.std.proofs.lemmas.Bool.Decides.{nat_tests}
use Rattle.table.specs.Items.{Item, sporadic, angular, entered, Leaves}
use Rattle.table.specs.Tables.{items}
use Rattle.line.specs.Answers.{Answer, and_then, sheet_answer}
use Rattle.modes.specs.Plans.{whole_answer}
use Rattle.editor.specs.Drafts.{Outline, outline, held}
use Rattle.editor.proofs.Passing.{second}
use Rattle.editor.specs.Desks.{Desk, desk, put_answer, after_put, tasks_with, CloseLeaves, close_answer, on_draft, after_close}
use Rattle.editor.specs.declared.editor.Editor.{Editor}
use Rattle.editor.specs.declared.editor.Sketch.{Sketch}
use Rattle.loader.specs.Ends.{last}
use Rattle.faults.specs.Faults.{in_task}
use Rattle.loader.specs.Progress.{closing, closing_with, by}
use Rattle.loader.specs.Loaders.{SheetAfter}

-- A task that goes to place 15 of at most 15 tasks is the last.
pub entered_last : (is : List Item) (i : Item) → length is < 16 → entered is 15 i ≡ is ++ i ∷ []
entered_last is i h =
    let k : min 15 (length is) ≡ length is = omega arith in
    let t : take (min 15 (length is)) is ≡ is = take_all (min 15 (length is)) is (omega (arith, k)) in
    let d : drop (min 15 (length is)) is ≡ [] = drop_all (min 15 (length is)) is (omega (arith, k)) in
    ap (λ xs. xs ++ i ∷ drop (min 15 (length is)) is) t ∙ ap (λ xs. is ++ i ∷ xs) d

pub sheet_more : (is : List Item) (i : Item) (first was now : List ℕ) → SheetAfter is first was → Leaves i.make was now → SheetAfter (is ++ i ∷ []) first now
sheet_more [] i first was now e h = (now, subst (λ (s : List ℕ). Leaves i.make s now) e h, refl)
sheet_more (j ∷ is) i first was now (mid, l, r) h = (mid, l, sheet_more is i mid was now r h)

-- The close of the draft that goes to the last place.
pub closed_last : (is : List Item) (o : Option Outline) (first was now : List ℕ) → length is < 16 → last o ≡ true → SheetAfter is first was → CloseLeaves o was now → SheetAfter (tasks_with is o) first now
closed_last is None first was now h l s e = subst (SheetAfter is first) (sym e) s
closed_last is (Some o) first was now h l s e =
    let i : Item = record { number = o.number; make = angular o.plan } in
    let p : entered is o.place i ≡ is ++ i ∷ [] = ap (λ k. entered is k i) (eqb-true o.place 15 l) ∙ entered_last is i h in
    subst (λ (xs : List Item). SheetAfter xs first now) (sym p) (sheet_more is i first was now s e)

-- An accepted close of the draft is the step that closes the task above.
pub closed_step : (d : Desk) (place cells : ℕ) (d' : Desk) → close_answer d cells ≡ Ok tt → d' ≡ after_close d → closing (record { desk = d; last = place }) ≡ Ok (record { desk = d'; last = place })
closed_step d place cells d' ok e = go d.draft (second (sheet_answer cells) (on_draft d.draft whole_answer) ok)
  where
    go : (o : Option Outline) → on_draft o whole_answer ≡ Ok tt → closing_with o (record { desk = d; last = place }) ≡ Ok (record { desk = d'; last = place })
    go None h = let z : ◌≡◌ {A = ℕ} 0 1 = cc in absurd (omega arith)
    go (Some o) h = ap (λ a. by in_task a (record { desk = after_close d; last = place })) h ∙ ap (λ (x : Desk). Ok (record { desk = x; last = place })) (sym e)

-- Where a draft is open, there is room for its task.
pub drafted_room : (e : Editor) → is_some (desk e).draft ≡ true → length (desk e).tasks < 16
drafted_room e h = go e.draft e.drafted h
  where
    go : (o : Option Sketch) → held o (items e.table) ≡ true → is_some (option_map outline o) ≡ true → length (items e.table) < 16
    go None d h = absurd (omega (arith, false≢true h))
    go (Some s) d h = grind (arith, nat_tests)

-- A sporadic task that is put at the last place leaves the sheet as it was.
pub put_last : (d : Desk) (number cost period deadline : ℕ) (d' : Desk) (u : Unit {0}) → Ok u ≡ put_answer d number 15 cost period deadline → d' ≡ after_put d number 15 cost period deadline
    → (first now : List ℕ) → SheetAfter d.tasks first now → SheetAfter d'.tasks first now
put_last d number cost period deadline d' u ok e first now s =
    let i : Item = record { number = number; make = sporadic cost period deadline } in
    let few : length d.tasks < 16 = grind (arith, nat_tests, ok) in
    let y : is_ok (put_answer d number 15 cost period deadline) ≡ true = ap is_ok (sym ok) in
    let is : d'.tasks ≡ d.tasks ++ i ∷ [] = ap (λ (x : Desk). x.tasks) (e ∙ cond-true _ _ _ y) ∙ entered_last d.tasks i few in
    subst (λ (xs : List Item). SheetAfter xs first now) (sym is) (sheet_more d.tasks i first now now s refl)

-- The close of the open draft, seen from the editor.
pub closed_sheet : (e : Editor) (d' : Desk) (was now : List ℕ) → is_some (desk e).draft ≡ true → last (desk e).draft ≡ true → d' ≡ after_close (desk e) → CloseLeaves (desk e).draft was now → (first : List ℕ) → SheetAfter (desk e).tasks first was → SheetAfter d'.tasks first now
closed_sheet e d' was now some l is h first s =
    subst (λ (x : Desk). SheetAfter x.tasks first now) (sym is) (closed_last (desk e).tasks (desk e).draft first was now (drafted_room e some) l s h)
