-- The texts of an input, step by step. Assumes nothing.
use Rattle.std.proofs.Common.{◌≡◌, ℕ, zero, suc, ◌+◌, ◌≤◌, Bool, true, false, cond, List, [], ◌∷◌, length, take, drop, Some, None, Option, nat_lt, position, ◌==◌, option_map, unwrap_or, refl, sym, ap, ◌∙◌, arith, length-drop}
use Rattle.std.specs.Option.{option_and_then}
use Rattle.texts.specs.Texts.{Cut, number_64, text_of, first_text, texts_within, texts_of}

-- What follows a text is shorter than what it was cut from.
text_cut : (n : ℕ) (bs : List ℕ) (cut : Cut) (t : Bool) → cond t (Some (take n bs, drop (n + 1) bs)) None ≡ Some cut → length cut.1 ≤ length bs
text_cut n bs cut false e = absurd (cc)
text_cut n bs cut true e =
    let same : drop (n + 1) bs ≡ cut.1 = ap (λ o. (unwrap_or o cut).1) e in
    omega (arith, length-drop (n + 1) bs, ap length same)

text_read : (m : Option ℕ) (bs : List ℕ) (cut : Cut) → option_and_then (λ n. text_of n bs) m ≡ Some cut → length cut.1 ≤ length bs
text_read None bs cut e = absurd (cc)
text_read (Some n) bs cut e = text_cut n bs cut (nat_lt n (length bs)) e

text_found : (o : Option ℕ) (b : ℕ) (bs : List ℕ) (cut : Cut) → option_and_then (λ k. option_and_then (λ n. text_of n (drop (k + 1) (b ∷ bs))) (number_64 (take k (b ∷ bs)))) o ≡ Some cut → length cut.1 ≤ length bs
text_found None b bs cut e = absurd (cc)
text_found (Some k) b bs cut e =
    let read = text_read (number_64 (take k (b ∷ bs))) (drop (k + 1) (b ∷ bs)) cut e in
    omega (arith, read, length-drop (k + 1) (b ∷ bs))

text_passed : (b : ℕ) (bs : List ℕ) (cut : Cut) → first_text (b ∷ bs) ≡ Some cut → length cut.1 ≤ length bs
text_passed b bs cut e = text_found (position (λ x. x == 10) (b ∷ bs)) b bs cut e

-- An empty input has no text.
none_first : (n : ℕ) → texts_within n [] ≡ []
none_first zero = refl
none_first (suc n) = refl

same_behind : (n m : ℕ) (o : Option Cut) → ((cut : Cut) → o ≡ Some cut → texts_within n cut.1 ≡ texts_within m cut.1)
    → unwrap_or (option_map (λ cut. cut.0 ∷ texts_within n cut.1) o) [] ≡ unwrap_or (option_map (λ cut. cut.0 ∷ texts_within m cut.1) o) []
same_behind n m None f = refl
same_behind n m (Some cut) f = ap (λ ts. cut.0 ∷ ts) (f cut refl)

-- Any bound that the input keeps to gives the same texts.
same_texts : (n m : ℕ) (bs : List ℕ) → length bs ≤ n → length bs ≤ m → texts_within n bs ≡ texts_within m bs
same_texts n m [] h k = none_first n ∙ sym (none_first m)
same_texts zero m (b ∷ bs) h k = absurd (omega arith)
same_texts (suc n) zero (b ∷ bs) h k = absurd (omega arith)
same_texts (suc n) (suc m) (b ∷ bs) h k =
    same_behind n m (first_text (b ∷ bs)) (λ cut e. let short = text_passed b bs cut e in same_texts n m cut.1 (omega (arith, short)) (omega (arith, short)))

-- The first text, and those of what follows it.
pub texts_more : (bs : List ℕ) (cut : Cut) → first_text bs ≡ Some cut → texts_of bs ≡ cut.0 ∷ texts_of cut.1
unfolding texts_of
texts_more [] cut e = absurd (cc)
texts_more (b ∷ bs) cut e =
    let short = text_passed b bs cut e in
    ap (λ o. unwrap_or (option_map (λ (c : Cut). c.0 ∷ texts_within (length bs) c.1) o) []) e
    ∙ ap (λ ts. cut.0 ∷ ts) (same_texts (length bs) (length cut.1) cut.1 short (omega arith))

-- Where no text comes first, there is none.
pub texts_none : (bs : List ℕ) → first_text bs ≡ None → texts_of bs ≡ []
unfolding texts_of
texts_none [] e = refl
texts_none (b ∷ bs) e = ap (λ o. unwrap_or (option_map (λ (c : Cut). c.0 ∷ texts_within (length bs) c.1) o) []) e
