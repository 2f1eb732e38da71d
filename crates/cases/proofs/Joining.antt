-- What is answered and left where two lines are joined and judged. Assumes nothing.
use Rattle.std.proofs.Common.{◌≡◌, ℕ, ◌≤◌, cond, List, length, is_ok, IfOk, Ok, Result, sym, ap, ◌∙◌, subst}
use Rattle.std.proofs.lemmas.Bool.{cond-false, le-ltb}
use Rattle.line.specs.Meaning.{Meaning}
use Rattle.line.specs.Joins.{joined, join_answer}
use Rattle.line.specs.declared.refusal.Refusal.{Refusal}
use Rattle.response.specs.Verdicts.{judge_answer, judged_cells}
use Rattle.response.specs.Judgements.{Judged}
use Rattle.response.specs.declared.Verdict.{Verdict}
use Rattle.cases.specs.Beside.{verdict_after, beside_answer, beside_cells}

-- A line m that is the two joined, judged over cells enough, answers and leaves what is said of the two.
pub judged_beside : (a b m : Meaning) (u : Unit {0}) (cells cells' : List ℕ) (r : Result (Verdict ℕ) Refusal)
    → m ≡ joined a b
    → Ok u ≡ join_answer a b
    → 256 ≤ length cells
    → r ≡ judge_answer m (length cells)
    → cells' ≡ judged_cells m cells
    → IfOk r (λ v. Judged m v cells')
    → (r ≡ beside_answer a b (length cells)) × (cells' ≡ beside_cells a b cells) × IfOk r (λ v. Judged (joined a b) v cells')
judged_beside a b m u cells cells' r same ok long answer left judged = (
  subst (λ x. r ≡ judge_answer x (length cells)) same answer
      ∙ (ap (λ j. verdict_after j (judge_answer (joined a b) (length cells))) ok ∙ sym (cond-false _ _ _ (le-ltb (length cells) 256 long))),
  subst (λ x. cells' ≡ judged_cells x cells) same left ∙ ap (λ j. cond (is_ok j) (judged_cells (joined a b) cells) cells) ok,
  subst (λ x. IfOk r (λ v. Judged x v cells')) same judged,
)
