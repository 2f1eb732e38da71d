-- What a close is told by its checks in turn. Assumes nothing.
use Rattle.std.proofs.Common.{◌≡◌, ℕ, Ok, Err, arith}
use Rattle.std.proofs.lemmas.Bool.Decides.{nat_tests}
use Rattle.line.specs.declared.refusal.Refusal.{Refusal}
use Rattle.line.specs.Answers.{sheet_answer}
use Rattle.editor.specs.Desks as desks
use Rattle.bench.specs.State.{State, ours, close_answer}

-- Where sheet and ticket pass, it is the draft that refuses.
pub draft_refuses : (s : State) (bench cells : ℕ) (u v : Unit {0}) (e : Refusal) → Ok v ≡ sheet_answer cells → Ok u ≡ ours s bench → desks.close_answer s.desk cells ≡ Err e → close_answer s bench cells ≡ Err e
draft_refuses s bench cells u v e room ticket refused = grind (arith, nat_tests)
