-- A graph after an accepted change: it is whole if it was, and asks for no more than before. Assumes nothing.
use Rattle.std.proofs.Common.{◌≡◌, ℕ, ◌+◌, ◌*◌, ◌<◌, ◌≤◌, true, ◌⊎◌, List, length, get_or, set, is_some, is_ok, Some, None, Ok, Err, Option, sym, refl, ap, ◌∙◌, inl, inr, arith, length-set, get_or-set_other, get_or-set_same}
use Rattle.std.proofs.lemmas.List.{get_or_past}
use Rattle.std.proofs.lemmas.Option.{none-some, same_Some}
use Rattle.std.proofs.lemmas.Bool.{cases_eq, cases_lt, false≢true}
use Rattle.line.specs.Meaning.{Graph, gap_of}
use Rattle.line.specs.Answers.{Answer}
use Rattle.line.specs.Lighter.{Lightened}
use Rattle.line.specs.Changes.{change_answer}
use Rattle.line.specs.declared.change.Change.{Change}
use Rattle.line.specs.declared.change.Change.TheVariants.{Lower, Widen, Cut}
use Rattle.line.proofs.Changing.{gap_there, told}
use Rattle.modes.specs.Plans.{Plan, blank, graph_of, with_cost, with_link, changed_plan, whole_answer, Whole}
use Rattle.modes.specs.declared.graph.Mode.{Mode}
use Rattle.modes.proofs.Plans.{decides_whole}

opened : (o : Option ℕ) → is_some o ≡ true → (g : ℕ) × (o ≡ Some g)
opened None h = absurd (false≢true h)
opened (Some g) h = (g, refl)

-- Where a gap is read there is a cell.
cell_there : (gaps : List (Option ℕ)) (k g : ℕ) → get_or gaps k None ≡ Some g → k < length gaps
cell_there gaps k g e = elim (cases_lt k (length gaps)) [ inl h ↦ h | inr h ↦ absurd (none-some g (sym (get_or_past gaps k None h) ∙ e)) ]

-- ---- another cost
module _ (p : Plan) (mode cost : ℕ) (lm : mode < length p.modes) (less : cost < (graph_of p).cost mode) where
  abbrev new : Mode
  new = record { cost = cost; deadline = (graph_of p).deadline mode }

  cost_modes : (graph_of (with_cost p mode cost)).modes ≡ (graph_of p).modes
  cost_modes = length-set p.modes mode new

  cost_lighter : Lightened (graph_of (with_cost p mode cost)) (graph_of p)
  cost_lighter = record { lighter = record { same = cost_modes; cheaper = cheaper; rarer = λ a b h e. (h, e, omega arith) }; due = due }
    where
      due : (m : ℕ) → (graph_of (with_cost p mode cost)).deadline m ≡ (graph_of p).deadline m
      due m = elim (cases_eq m mode) [
        | inl e ↦ ap (λ k. (get_or (set p.modes mode new) k blank).deadline) e ∙ ap (λ (y : Mode). y.deadline) (get_or-set_same p.modes mode new blank lm) ∙ ap (graph_of p).deadline (sym e)
        | inr n ↦ ap (λ (y : Mode). y.deadline) (get_or-set_other p.modes mode m new blank n)
      ]

      cheaper : (m : ℕ) → (graph_of (with_cost p mode cost)).cost m ≤ (graph_of p).cost m
      cheaper m = elim (cases_eq m mode) [
        | inl e ↦
            let at = ap (λ k. (get_or (set p.modes mode new) k blank).cost) e ∙ ap (λ (y : Mode). y.cost) (get_or-set_same p.modes mode new blank lm) in
            omega (arith, at, ap (graph_of p).cost e)
        | inr n ↦ omega (arith, ap (λ (y : Mode). y.cost) (get_or-set_other p.modes mode m new blank n))
      ]

  cost_whole : Whole (graph_of p) → Whole (graph_of (with_cost p mode cost))
  cost_whole w = record {
    some_mode = omega (arith, cost_modes, w.some_mode);
    leads = λ a h. let l = w.leads a (omega (arith, cost_modes)) in (l.0, omega (arith, cost_modes, l.1), l.2);
  }

-- ---- another gap, or none, at a cell where there is one
module _ (p : Plan) (from to old : ℕ) (gap : Option ℕ) (stands : (graph_of p).gap from to ≡ Some old) where
  abbrev H : Graph
  H = graph_of (with_link p from to gap)

  here : (a b : ℕ) → a * 16 + b ≡ from * 16 + to → H.gap a b ≡ gap
  here a b e = ap (λ k. get_or (set p.gaps (from * 16 + to) gap) k None) e ∙ get_or-set_same p.gaps (from * 16 + to) gap None (cell_there p.gaps (from * 16 + to) old stands)

  elsewhere : (a b : ℕ) → (a * 16 + b ≡ from * 16 + to → ⊥) → H.gap a b ≡ (graph_of p).gap a b
  elsewhere a b n = get_or-set_other p.gaps (from * 16 + to) (a * 16 + b) gap None n

  link_lighter : ((h : ℕ) → gap ≡ Some h → old ≤ h) → Lightened H (graph_of p)
  link_lighter wider = record { lighter = record { same = refl; cheaper = λ m. omega arith; rarer = rarer }; due = λ m. refl }
    where
      rarer : (a b h : ℕ) → H.gap a b ≡ Some h → (g : ℕ) × ((graph_of p).gap a b ≡ Some g) × (g ≤ h)
      rarer a b h e = elim (cases_eq (a * 16 + b) (from * 16 + to)) [
        | inl q ↦ (old, ap (λ k. get_or p.gaps k None) q ∙ stands, wider h (sym (here a b q) ∙ e))
        | inr n ↦ (h, sym (elsewhere a b n) ∙ e, omega arith)
      ]

  -- It is whole still where another link leaves the mode, or the link stays.
  link_whole : Whole (graph_of p) → (graph_of p).modes ≤ 16 → from < (graph_of p).modes → to < (graph_of p).modes
      → (is_some gap ≡ true) ⊎ ((b : ℕ) × (b < (graph_of p).modes) × (((b ≡ to) → ⊥) × (is_some (gap_of (graph_of p) from b) ≡ true)))
      → Whole H
  link_whole w few lf lt other = record { some_mode = w.some_mode; leads = leads }
    where
      away : (a : ℕ) → ((b : ℕ) × (b < (graph_of p).modes) × (is_some ((graph_of p).gap a b) ≡ true)) → ((a ≡ from) → ⊥) → (b : ℕ) × (b < (graph_of p).modes) × (is_some (H.gap a b) ≡ true)
      away a l n = (l.0, l.1, ap is_some (elsewhere a l.0 (λ e. n (omega (arith, e, l.1)))) ∙ l.2)

      at : (a : ℕ) → ((b : ℕ) × (b < (graph_of p).modes) × (is_some ((graph_of p).gap a b) ≡ true)) → a ≡ from → (b : ℕ) × (b < (graph_of p).modes) × (is_some (H.gap a b) ≡ true)
      at a l e = elim other [
        | inl s ↦ (to, lt, ap is_some (here a to (omega (arith, e))) ∙ s)
        | inr o ↦
            let g = opened (gap_of (graph_of p) from o.0) o.2.1 in
            let t = gap_there (graph_of p) from o.0 g.0 g.1 in
            (o.0, o.1, ap is_some (elsewhere a o.0 (λ q. o.2.0 (omega (arith, e, q, o.1))) ∙ ap (λ x. (graph_of p).gap x o.0) e ∙ t.2))
      ]

      leads : (a : ℕ) → a < (graph_of p).modes → (b : ℕ) × (b < (graph_of p).modes) × (is_some (H.gap a b) ≡ true)
      leads a h = elim (cases_eq a from) [ inl e ↦ at a (w.leads a h) e | inr n ↦ away a (w.leads a h) n ]

-- A change that is accepted asks for no more.
pub changed_lighter : (p : Plan) (c : Change) → change_answer (graph_of p) c ≡ Ok tt → Lightened (graph_of (changed_plan c p)) (graph_of p)
changed_lighter p (Lower mode cost) h = let t = told (graph_of p) (Lower mode cost) h in cost_lighter p mode cost t.0 t.1
changed_lighter p (Widen from to gap) h =
    let t = told (graph_of p) (Widen from to gap) h in
    link_lighter p from to t.0 (Some gap) t.3 (λ k e. omega (arith, same_Some gap k e, t.4))
changed_lighter p (Cut from to) h =
    let t = told (graph_of p) (Cut from to) h in
    link_lighter p from to t.0 None t.3 (λ k e. absurd (none-some k e))

whole_changed : (p : Plan) (c : Change) → length p.modes ≤ 16 → change_answer (graph_of p) c ≡ Ok tt → Whole (graph_of p) → Whole (graph_of (changed_plan c p))
whole_changed p (Lower mode cost) few h w = let t = told (graph_of p) (Lower mode cost) h in cost_whole p mode cost t.0 t.1 w
whole_changed p (Widen from to gap) few h w =
    let t = told (graph_of p) (Widen from to gap) h in
    link_whole p from to t.0 (Some gap) t.3 w few t.1 t.2 (inl refl)
whole_changed p (Cut from to) few h w =
    let t = told (graph_of p) (Cut from to) h in
    link_whole p from to t.0 None t.3 w few t.1 t.2 (inr t.4)

ok_is : (r : Answer) → is_ok r ≡ true → r ≡ Ok tt
ok_is (Ok u) e = refl
ok_is (Err x) e = absurd (false≢true e)

-- It leaves a whole graph whole.
pub changed_whole : (p : Plan) (c : Change) → length p.modes ≤ 16 → change_answer (graph_of p) c ≡ Ok tt → is_ok (whole_answer p) ≡ true → whole_answer (changed_plan c p) ≡ Ok tt
changed_whole p c few h w = ok_is (whole_answer (changed_plan c p)) ((decides_whole (changed_plan c p)).1 (whole_changed p c few h ((decides_whole p).0 w)))
