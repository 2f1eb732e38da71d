use Rattle.std.proofs.Common.{◌≡◌, arith}
use Rattle.std.proofs.lemmas.Bool.Decides.{nat_tests}
use Rattle.forms.specs.Numbers.{digits_from, digits_up_to, number_of}
use Rattle.forms.proofs.Digits.{digits_few}
use Rattle.forms.proofs.number.number_of.Goals as goal

pub returns-then-not-is_plain : goal.returns-then-not-is_plain
unfolding number_of
returns-then-not-is_plain c = let g = c.if-not-is_plain.ensures in grind arith

pub returns : goal.returns
unfolding number_of
returns c =
    let p = c.if-not-is_plain.ensures in
    let e : digits_up_to 999999 0 c.args.word.now ≡ digits_from 0 c.args.word.now = digits_few 0 0 c.args.word.now (omega arith) (grind (arith, nat_tests)) in
    grind (arith, nat_tests)
