-- Reading lines that are all accepted. Assumes nothing.
use Rattle.std.proofs.Common.{◌≡◌, ℕ, ◌+◌, false, cond, List, [], ◌∷◌, ◌++◌, length, is_ok, Some, None, Ok, Result, sym, refl, ap, ◌∙◌, subst, arith}
use Rattle.std.proofs.lemmas.List.{length-append, append_assoc}
use Rattle.line.specs.Answers.{Answer, and_then}
use Rattle.modes.specs.Plans.{Plan, empty_plan, mode_numbers, add_answer, with_mode, link_numbers, link_answer, with_gap, whole_answer}
use Rattle.table.specs.Items.{Item, sporadic, angular, entered}
use Rattle.editor.specs.Desks.{Desk, with_tasks, put_answer, open_answer, replanned}
use Rattle.forms.specs.declared.form.Form.{Form}
use Rattle.forms.specs.declared.form.Form.TheVariants as form
use Rattle.forms.specs.Format.{spell, Sound}
use Rattle.forms.specs.Places.{At, rest_of}
use Rattle.forms.specs.Reads.{Spelled}
use Rattle.forms.proofs.ReadBack.{past_line, rest_past}
use Rattle.faults.specs.declared.LoadFault.{LoadFault}
use Rattle.faults.specs.Faults.{in_task, in_table}
use Rattle.loader.specs.Progress.{Progress, Outcome, by, and_go, closing, putting, opening, stepping, is_end}
use Rattle.store.specs.Loads.{Loads}
use Rattle.store.specs.Loads.Loads.{onward}
use Rattle.save.specs.Texts.{spelled}

-- Lines from a byte place on, each with a spelling, none the trailer, and each accepted.
abbrev pub Runs : ℕ → List Form → Progress → Progress → Type 0
Runs pos [] p q = p ≡ q
Runs pos (f ∷ fs) p q = (m : Progress) × Sound f × (is_end f ≡ false) × (stepping pos f p ≡ Ok m) × Runs (pos + length (spell f)) fs m q

pub runs_append : (pos : ℕ) (fs gs : List Form) (p m q : Progress) → Runs pos fs p m → Runs (pos + length (spelled fs)) gs m q → Runs pos (fs ++ gs) p q
runs_append pos [] gs p m q e r =
    let z : pos + 0 ≡ pos = omega arith in
    subst (λ (x : Progress). Runs pos gs x q) (sym e) (subst (λ k. Runs k gs m q) z r)
runs_append pos (f ∷ fs) gs p m q (n, s, b, k, a) r =
    let z : pos + length (spelled (f ∷ fs)) ≡ pos + length (spell f) + length (spelled fs) = omega (arith, length-append (spell f) (spelled fs)) in
    (n, s, b, k, runs_append (pos + length (spell f)) fs gs n m q a (subst (λ j. Runs j gs m q) z r))

-- A spelling that stands at a place.
pub spelled_here : (f : Form) (s : At) (more : List ℕ) → Sound f → rest_of s ≡ spell f ++ more → Spelled s f (past_line f s)
spelled_here f s more h e = record {
  sound = h;
  bytes = e ∙ ap (λ l. spell f ++ l) (sym (rest_past s (spell f) more e));
  moved = refl;
  counted = refl;
  same = refl;
}

-- What reading comes to after such lines, it comes to from their front.
pub runs_load : (fs : List Form) (s : At) (p q : Progress) (more : List ℕ) (r : Result (List Item) LoadFault)
    → rest_of s ≡ spelled fs ++ more
    → Runs s.pos fs p q
    → ((t : At) → rest_of t ≡ more → Loads t q r)
    → Loads s p r
runs_load [] s p q more r e run on = subst (λ (x : Progress). Loads s x r) (sym run) (on s e)
runs_load (f ∷ fs) s p q more r e (m, h, b, k, run) on =
    let g : rest_of s ≡ spell f ++ (spelled fs ++ more) = e ∙ append_assoc (spell f) (spelled fs) more in
    onward (spelled_here f s (spelled fs ++ more) h g) b k (runs_load fs (past_line f s) m q more r (rest_past s (spell f) (spelled fs ++ more) g) run on)

-- Tasks with no draft, and with one that goes to the last place.
abbrev pub resting : List Item → ℕ → Progress
resting is last = record { desk = record { tasks = is; draft = None }; last = last }

abbrev pub drafting : List Item → ℕ → Plan → ℕ → Progress
drafting is number plan last = record { desk = record { tasks = is; draft = Some (record { number = number; place = 15; plan = plan }) }; last = last }

-- ---- what accepted lines do
pub put_step : (is : List Item) (last : ℕ) (p : Progress) (pos number cost period deadline : ℕ)
    → closing p ≡ Ok (resting is last)
    → put_answer (resting is last).desk number 15 cost period deadline ≡ Ok tt
    → stepping pos (form.Sporadic number cost period deadline) p ≡ Ok (resting (entered is 15 (record { number = number; make = sporadic cost period deadline })) pos)
put_step is last p pos number cost period deadline shut ok =
    let d : Desk = (resting is last).desk in
    let after : Desk = with_tasks d (entered is 15 (record { number = number; make = sporadic cost period deadline })) in
    ap (λ (o : Outcome). and_go o (putting pos number cost period deadline)) shut
    ∙ (λ i. by in_table (ok i) (record { desk = cond (is_ok (ok i)) after d; last = pos }))

pub open_step : (is : List Item) (last : ℕ) (p : Progress) (pos number : ℕ)
    → closing p ≡ Ok (resting is last)
    → open_answer (resting is last).desk number 15 ≡ Ok tt
    → stepping pos (form.Angular number) p ≡ Ok (drafting is number empty_plan pos)
open_step is last p pos number shut ok =
    ap (λ (o : Outcome). and_go o (opening pos number)) shut
    ∙ ap (λ (a : Answer). by in_table a (drafting is number empty_plan pos)) ok

module _ (is : List Item) (number : ℕ) (plan : Plan) (last : ℕ) where
  pub mode_step : (pos cost deadline : ℕ) → mode_numbers cost deadline ≡ Ok tt → add_answer plan cost deadline ≡ Ok tt
      → stepping pos (form.Mode cost deadline) (drafting is number plan last) ≡ Ok (drafting is number (with_mode plan cost deadline) last)
  mode_step pos cost deadline a b =
      let d : Desk = (drafting is number plan last).desk in
      (λ i. by in_task (and_then (a i) (b i)) (record { desk = cond (is_ok (and_then (a i) (b i))) (replanned (λ _. cond (is_ok (b i)) (with_mode plan cost deadline) plan) d) d; last = last }))

  pub link_step : (pos from to gap : ℕ) → link_numbers from to gap ≡ Ok tt → link_answer plan from to gap ≡ Ok tt
      → stepping pos (form.Link from to gap) (drafting is number plan last) ≡ Ok (drafting is number (with_gap plan from to gap) last)
  link_step pos from to gap a b =
      let d : Desk = (drafting is number plan last).desk in
      (λ i. by in_task (and_then (a i) (b i)) (record { desk = cond (is_ok (and_then (a i) (b i))) (replanned (λ _. cond (is_ok (b i)) (with_gap plan from to gap) plan) d) d; last = last }))

  pub close_step : whole_answer plan ≡ Ok tt → closing (drafting is number plan last) ≡ Ok (resting (entered is 15 (record { number = number; make = angular plan })) last)
  close_step a = ap (λ (x : Answer). by in_task x (resting (entered is 15 (record { number = number; make = angular plan })) last)) a
