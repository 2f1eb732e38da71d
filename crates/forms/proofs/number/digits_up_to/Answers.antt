use Rattle.std.proofs.Common.{◌≤◌, IfSome, sym, subst, rules, refl, arith}
use Rattle.std.proofs.lemmas.Iterator.{YieldsList-from_slice}
use Rattle.std.proofs.iter.Yields.{fronts}
use Rattle.forms.proofs.Digits.{folded, digits_within}
use Rattle.forms.proofs.number.digits_up_to.Goals as goal

pub returns : goal.returns
returns c =
    let limit = c.args.limit in
    let ds = c.args.digits.now in
    let d = c.try_fold.ensures.ran in
    let e = YieldsList-from_slice {s = c.iter.result} ds c.iter.ensures.rest in
    let a = folded limit fronts (λ x. x.now) _ _ (λ n x r q h. search rules) _ ds d.0 d.1 c.iter.result d.4.0 c.try_fold.new.self _ (d.2, d.3) c.try_fold.result e.runs d.4.1 d.4.2 refl d.5 d.6 in
    record { number = a; within = subst (λ o. IfSome o (λ n. n ≤ limit)) (sym a) (digits_within limit 0 ds (omega arith)) }
