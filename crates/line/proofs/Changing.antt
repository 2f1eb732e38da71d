-- Changes of a task: links out of a mode other than a given one, and what an accepted change was told. Assumes
-- nothing.
use Rattle.std.proofs.Common.{◌≡◌, ℕ, ◌<◌, Bool, true, false, cond, not, eqb, leb, is_some, Some, None, Ok, Err, Decides, Option, sym, refl, ◌∙◌, inl, inr, arith}
use Rattle.std.proofs.lemmas.Bool.{and_parts, and_from, cases_lt, eqb-false, ne_eqb, not-true, not_from_false, cond-true, cond-false, lt-ltb, le-ltb, lt-leb, le-leb}
use Rattle.std.proofs.lemmas.Option.{none-some}
use Rattle.std.proofs.lemmas.Bool.Decides.{Decides-below_or, nat_tests}
use Rattle.line.specs.declared.refusal.Refusal.TheVariants.{NotThere, NotReduced}
use Rattle.line.specs.declared.change.Change.{Change}
use Rattle.line.specs.declared.change.Change.TheVariants.{Lower, Widen, Cut}
use Rattle.line.specs.Meaning.{Graph, cost_of, gap_of}
use Rattle.line.specs.Answers.{Answer}
use Rattle.line.specs.Changes.{goes_else, leads_else, LeadsElse, widen_answer, cut_answer, change_answer}

decides_else : (G : Graph) (from to b : ℕ) → Decides (goes_else G from to b) (((b ≡ to) → ⊥) × (is_some (gap_of G from b) ≡ true))
decides_else G from to b = (
  λ h. let p = and_parts (not (eqb b to)) (is_some (gap_of G from b)) h in (eqb-false b to (not-true (eqb b to) p.0), p.1),
  λ h. and_from (not (eqb b to)) (is_some (gap_of G from b)) (not_from_false (eqb b to) (ne_eqb b to h.0)) h.1,
)

-- The test says what the law says.
pub leads_else_lem : (G : Graph) → LeadsElse G
leads_else_lem G from to =
    Decides-below_or (goes_else G from to) (λ b. ((b ≡ to) → ⊥) × (is_some (gap_of G from b) ≡ true)) (leads_else G from to) (decides_else G from to) refl (λ _. refl) G.modes

-- A gap that is answered lies between two modes.
pub gap_there : (G : Graph) (a b g : ℕ) → gap_of G a b ≡ Some g → (a < G.modes) × (b < G.modes) × (G.gap a b ≡ Some g)
gap_there G a b g h = elim (cases_lt a G.modes) [
  | inl la ↦ elim (cases_lt b G.modes) [
    | inl lb ↦ (la, lb, sym (cond-true _ _ _ (lt-ltb _ _ la) ∙ cond-true _ _ _ (lt-ltb _ _ lb)) ∙ h)
    | inr nb ↦ absurd (none-some g (sym (cond-true _ _ _ (lt-ltb _ _ la) ∙ cond-false _ _ _ (le-ltb _ _ nb)) ∙ h))
  ]
  | inr na ↦ absurd (none-some g (sym (cond-false _ _ _ (le-ltb _ _ na)) ∙ h))
]

-- What a change that is accepted was told: the mode or link is there, a cost gets smaller, a gap larger, and beside
-- a link that is struck out another one leaves its mode.
abbrev pub Told : Graph → Change → Type 0
Told G (Lower mode cost) = (mode < G.modes) × (cost < G.cost mode)
Told G (Widen from to gap) = (g : ℕ) × (from < G.modes) × (to < G.modes) × (G.gap from to ≡ Some g) × (g < gap)
Told G (Cut from to) = (g : ℕ) × (from < G.modes) × (to < G.modes) × (G.gap from to ≡ Some g) × ((b : ℕ) × (b < G.modes) × (((b ≡ to) → ⊥) × (is_some (gap_of G from b) ≡ true)))

pub told : (G : Graph) (c : Change) → change_answer G c ≡ Ok tt → Told G c
told G (Lower mode cost) h = elim (cases_lt mode G.modes) [
  | inl lm ↦ (lm, lower_told (sym (cond-false _ _ _ (lt-leb _ _ lm)) ∙ h) (cond-true _ _ _ (lt-ltb _ _ lm)))
  | inr nm ↦ absurd (refused (sym (cond-true _ _ _ (le-leb _ _ nm)) ∙ h))
]
  where
    refused : ◌≡◌ {A = Answer} (Err NotThere) (Ok tt) → ⊥
    refused e = cc (e)

    lower_told : ◌≡◌ {A = Answer} (cond (leb (cost_of G mode) cost) (Err NotReduced) (Ok tt)) (Ok tt) → cost_of G mode ≡ G.cost mode → cost < G.cost mode
    lower_told e q = let l : cost < cost_of G mode = grind (arith, nat_tests) in omega (arith, l, q)
told G (Widen from to gap) h = wide (gap_of G from to) refl h
  where
    wide : (o : Option ℕ) → gap_of G from to ≡ o → widen_answer o gap ≡ Ok tt → Told G (Widen from to gap)
    wide None e q = absurd (cc (q))
    wide (Some g) e q = let t = gap_there G from to g e in let l : g < gap = grind (arith, nat_tests) in (g, t.0, t.1, t.2, l)
told G (Cut from to) h = sole (gap_of G from to) (leads_else G from to G.modes) refl refl h
  where
    sole : (o : Option ℕ) (b : Bool) → gap_of G from to ≡ o → leads_else G from to G.modes ≡ b → cut_answer o b ≡ Ok tt → Told G (Cut from to)
    sole None b e f q = absurd (cc (q))
    sole (Some g) false e f q = absurd (cc (q))
    sole (Some g) true e f q = let t = gap_there G from to g e in (g, t.0, t.1, t.2, (leads_else_lem G from to).0 f)
