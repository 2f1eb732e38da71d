-- A sporadic task after an accepted change asks for no more than before. Assumes nothing.
use Rattle.std.proofs.Common.{◌≡◌, ℕ, suc, ◌+◌, ◌-◌, ◌≤◌, Ok, refl, suc-mul, div-lt_iff_lt-mul, mul-le-mul, mul-le-mul_left, arith}
use Rattle.std.proofs.lemmas.Option.{same_Some}
use Rattle.line.specs.Lighter.{Eased}
use Rattle.line.specs.Changes.{change_answer}
use Rattle.line.specs.declared.change.Change.{Change}
use Rattle.line.specs.declared.change.Change.TheVariants.{Lower, Widen, Cut}
use Rattle.line.proofs.Changing.{told}
use Rattle.sporadic.specs.Tasks.{releases, sporadic_task, changed_cost, changed_period}

-- Over a longer period a window holds no more releases.
releases_rarer : (w t u : ℕ) → 1 ≤ t → t ≤ u → releases w u ≤ releases w t
releases_rarer w t u h le =
    let r = releases w t in
    let a = (div-lt_iff_lt-mul {x = w + (t - 1)} {y = suc r} h).0 (omega arith) in
    let m = mul-le-mul_left r le in
    let lu : 1 ≤ u = omega (arith, h, le) in
    let b = (div-lt_iff_lt-mul {x = w + (u - 1)} {y = suc r} lu).1 (omega (arith, a, m, h, le, suc-mul r t, suc-mul r u)) in
    omega (arith, b)

eased : (c t d c' t' : ℕ) → 1 ≤ t → c' ≤ c → t ≤ t' → Eased (sporadic_task c' t' d) (sporadic_task c t d)
eased c t d c' t' h lc lt = record {
  graph = record { lighter = record { same = refl; cheaper = λ m. lc; rarer = λ a b k e. (t, refl, omega (arith, lt, same_Some t' k e)) }; due = λ m. refl };
  most = λ w hw. mul-le-mul lc (releases_rarer w t t' h lt);
}

pub changed_eased : (c t d : ℕ) (x : Change) → 1 ≤ t → change_answer (sporadic_task c t d).graph x ≡ Ok tt → Eased (sporadic_task (changed_cost x c) (changed_period x t) d) (sporadic_task c t d)
changed_eased c t d (Lower mode cost) h e = eased c t d cost t h (omega (arith, (told (sporadic_task c t d).graph (Lower mode cost) e).1)) (omega arith)
changed_eased c t d (Widen from to gap) h e =
    let k = told (sporadic_task c t d).graph (Widen from to gap) e in
    eased c t d c gap h (omega arith) (omega (arith, same_Some t k.0 k.3, k.4))
changed_eased c t d (Cut from to) h e = eased c t d c t h (omega arith) (omega arith)
