use Rattle.std.proofs.Common.{◌≡◌, Some, ap, arith, option_map}
use Rattle.std.proofs.lemmas.Grind.{common_steps}
use Rattle.calls.specs.Words.{front, number_32}
use Rattle.calls.proofs.Numbers.{number_noted}
use Rattle.calls.proofs.words.numbers_of.Goals as goal

pub loop-left-preserved : goal.loop-left-preserved
loop-left-preserved c =
    let word : number_32 (front c.in-Some.text.now 32) ≡ Some c.in_ok-number_of.field-0 = cc (c.cut_at.ensures.front, c.number_of.ensures, c.in_ok-number_of.was) in
    number_noted c.in_ok-number_of.field-0 c.loop-left.numbers.items c.try_push.new.self.items c.in-Some.text.now _ _ _ (grind (arith, common_steps)) (grind (arith, common_steps)) (ap (option_map (λ w. w.now)) c.in-Some.is) c.cut_at.ensures.behind word c.loop-left.invariant
