-- A number below a million has one spelling, and reading it gives the number back. Assumes nothing.
use Rattle.std.proofs.Common.{◌≡◌, ℕ, ◌+◌, ◌-◌, ◌*◌, ◌^◌, ◌<◌, ◌≤◌, Bool, true, false, cond, ◌&&◌, List, [], ◌∷◌, length, get_or, Some, None, decimal, Option, sym, refl, ap, ◌∙◌, ⊎_elim, arith, rules}
use Rattle.std.specs.Char.{is_ascii_digit}
use Rattle.std.specs.Str.{all_ascii_digits}
use Rattle.std.proofs.lemmas.Fmt.{digits_decimal, digits_value-decimal, length-decimal-le, decimal_nonempty, decimal-digits_value, first_decimal, decimal_digit}
use Rattle.std.proofs.lemmas.Str.Parse.{IsNumeralModel, numerals_by_fold, tells_all_ascii_digits, digits_value_short}
use Rattle.std.proofs.lemmas.Bool.{cases_eq, cond-true}
use Rattle.std.proofs.lemmas.Bool.Decides.{nat_tests}
use Rattle.forms.specs.Numbers.{digits_from, plain, number_of}

abbrev read_on : ℕ → List ℕ → ℕ
read_on n [] = n
read_on n (c ∷ cs) = read_on (n * 10 + (c - 48)) cs

own : IsNumeralModel (λ ds. all_ascii_digits ds ≡ true) (read_on 0)
own = numerals_by_fold _ tells_all_ascii_digits read_on (search rules)

digits_is : (n : ℕ) (bs : List ℕ) → digits_from n bs ≡ cond (all_ascii_digits bs) (Some (read_on n bs)) None
digits_is n [] = refl
digits_is n (c ∷ cs) =
    elim (is_ascii_digit c) as (λ b. cond b (digits_from (n * 10 + (c - 48)) cs) None ≡ cond (b && all_ascii_digits cs) (Some (read_on (n * 10 + (c - 48)) cs)) None)
    [ true ↦ digits_is (n * 10 + (c - 48)) cs | false ↦ refl ]

first_plain : (n : ℕ) → n < 1000000 → get_or (decimal n) 0 0 ≡ 48 → length (decimal n) ≡ 1
first_plain n small e =
    ⊎_elim
    (λ z. ap length (decimal_digit n (omega arith)))
    (λ nz. absurd (omega (arith, first_decimal n (omega arith) (omega arith))))
    (cases_eq n 0)

pub number_spelled : (n : ℕ) → n < 1000000 → number_of (decimal n) ≡ Some n
unfolding number_of
number_spelled n small =
    let big : n < 2 ^ 64 = omega arith in
    let a = digits_decimal own n big in
    let v = digits_value-decimal own n big in
    let d = digits_is 0 (decimal n) in
    let l = length-decimal-le 6 n (omega arith) (omega arith) big in
    let s = decimal_nonempty n big in
    let f = cases_eq (get_or (decimal n) 0 0) 48 in
    let p : plain (decimal n) ≡ true = ⊎_elim (λ z. let one = first_plain n small z in grind (arith, nat_tests)) (λ nz. grind (arith, nat_tests)) f in
    cond-true _ _ _ p ∙ d ∙ cond-true _ _ _ a ∙ ap Some v

some_cond : (b : Bool) (o : Option ℕ) (n : ℕ) → cond b o None ≡ Some n → (b ≡ true) × (o ≡ Some n)
some_cond true o n e = (refl, e)
some_cond false o n e = absurd (grind arith)

pub number_only : (bs : List ℕ) (n : ℕ) → number_of bs ≡ Some n → (bs ≡ decimal n) × (n < 1000000)
unfolding number_of
number_only bs n e =
    let p = some_cond (plain bs) (digits_from 0 bs) n e in
    let q = some_cond (all_ascii_digits bs) (Some (read_on 0 bs)) n (sym (digits_is 0 bs) ∙ p.1) in
    let v : read_on 0 bs ≡ n = grind arith in
    let some : 0 < length bs = grind (arith, nat_tests) in
    let short : length bs ≤ 6 = grind (arith, nat_tests) in
    let front : get_or bs 0 0 ≡ 48 → length bs ≡ 1 = λ z. grind (arith, nat_tests) in
    let small = digits_value_short own bs 6 q.0 short in
    (sym (decimal-digits_value own bs q.0 some front (omega arith)) ∙ ap decimal v, omega arith)

pub all_digits : (n : ℕ) → n < 1000000 → all_ascii_digits (decimal n) ≡ true
all_digits n small = digits_decimal own n (omega arith)
