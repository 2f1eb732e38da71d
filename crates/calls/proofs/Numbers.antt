-- The numbers of a line, word by word. Assumes nothing.
use Rattle.std.proofs.Common.{◌≡◌, ℕ, suc, ◌+◌, ◌-◌, ◌<◌, List, [], ◌∷◌, ◌++◌, length, Some, Option, sym, ap, ◌∙◌, arith, length-append}
use Rattle.std.specs.Option.{option_and_then}
use Rattle.calls.specs.Words.{front, behind, number_32}
use Rattle.calls.specs.Lists.{numbers_from}

-- One number more is noted, and what is left is read on.
pub number_noted : (v : ℕ) (seen more text : List ℕ) (left rest all : Option (List ℕ)) → length seen < 5 → more ≡ seen ++ (v ∷ []) → left ≡ Some text → rest ≡ behind text 32 → number_32 (front text 32) ≡ Some v
    → numbers_from (5 - length seen) seen left ≡ all
    → numbers_from (5 - length more) more rest ≡ all
number_noted v seen more text left rest all few m l r q e =
    let one : length more ≡ length seen + 1 = ap length m ∙ length-append seen (v ∷ []) in
    let s : 5 - length seen ≡ suc (5 - length more) = omega arith in
    let step : numbers_from (5 - length seen) seen left ≡ option_and_then (λ w. numbers_from (5 - length more) (seen ++ (w ∷ [])) (behind text 32)) (Some v)
    = ap (numbers_from (5 - length seen) seen) l ∙ ap (λ n. numbers_from n seen (Some text)) s ∙ ap (option_and_then (λ w. numbers_from (5 - length more) (seen ++ (w ∷ [])) (behind text 32))) q in
    ap (λ xs. numbers_from (5 - length more) xs rest) m ∙ ap (numbers_from (5 - length more) (seen ++ (v ∷ []))) r ∙ sym step ∙ e
