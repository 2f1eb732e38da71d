-- The texts of an input: each comes as a line with its length, its bytes, and a line feed. Assumes nothing.
use Rattle.std.specs.Prelude.{ℕ, zero, suc, ◌+◌, cond, List, [], ◌∷◌, ◌==◌, length, take, drop, Some, None, Option, nat_lt, position, option_map, unwrap_or}
use Rattle.std.specs.Borrow.{Bor}
use Rattle.std.specs.Option.{option_and_then}
use Rattle.forms.specs.Numbers.{digits_up_to}
use Rattle.texts.specs.declared.input.Texts.{Texts}

-- The number of 64 bits that digits spell.
abbrev pub number_64 : List ℕ → Option ℕ
number_64 bs = digits_up_to 18446744073709551615 0 bs

-- A text, and what follows it.
abbrev pub Cut : Type 0
Cut = List ℕ × List ℕ

-- A text of n bytes, which one byte more has to follow.
abbrev pub text_of : ℕ → List ℕ → Option Cut
text_of n bs = cond (nat_lt n (length bs)) (Some (take n bs, drop (n + 1) bs)) None

-- The first text of an input: it follows the line that says its length.
abbrev pub first_text : List ℕ → Option Cut
first_text bs = option_and_then (λ k. option_and_then (λ n. text_of n (drop (k + 1) bs)) (number_64 (take k bs))) (position (λ b. b == 10) bs)

-- The texts of an input of up to n bytes, up to the first that is not whole.
abbrev pub texts_within : ℕ → List ℕ → List (List ℕ)
texts_within zero bs = []
texts_within (suc n) bs = unwrap_or (option_map (λ cut. cut.0 ∷ texts_within n cut.1) (first_text bs)) []

-- The texts of an input, up to the first that is not whole.
unfoldable pub texts_of : List ℕ → List (List ℕ)
texts_of bs = texts_within (length bs) bs

-- The texts that are still to be read.
abbrev pub texts_left : Texts → List (List ℕ)
texts_left t = texts_of t.rest.now

-- Two pieces by their bytes.
abbrev pub in_two : (Bor (List ℕ) × Bor (List ℕ)) → Cut
in_two p = (p.0.now, p.1.now)
