-- What the judge of the table's line says to a bench that has just its 256 cells. Assumes nothing.
use Rattle.std.proofs.Common.{◌≡◌, ℕ, false, ltb, List, ◌++◌, length, Ok, ap, ◌∙◌, append-nil, arith}
use Rattle.std.proofs.lemmas.List.{drop_all}
use Rattle.std.proofs.lemmas.Bool.{cond-false, le-ltb}
use Rattle.line.specs.Meaning.{Meaning}
use Rattle.response.specs.Verdicts.{verdict_of, bound_cells, judge_answer, judged_cells}
use Rattle.response.specs.declared.Verdict.{Verdict}

module _ (m : Meaning) (cells : List ℕ) (long : length cells ≡ 256) where
  enough : ltb (length cells) 256 ≡ false
  enough = le-ltb _ _ (omega (arith, long))

  answered : judge_answer m (length cells) ≡ Ok (verdict_of m)
  answered = cond-false _ _ _ enough

  pub found : (v : Verdict ℕ) → Ok v ≡ judge_answer m (length cells) → v ≡ verdict_of m
  found v e = cc (e, answered)

  pub shown : judged_cells m cells ≡ bound_cells m
  shown = cond-false _ _ _ enough ∙ ap (λ xs. bound_cells m ++ xs) (drop_all 256 cells (omega (arith, long))) ∙ append-nil (bound_cells m)
