-- Tests of each number below another, from the highest down, against `any` over the range. Assumes nothing.
use Rattle.std.proofs.Common.{◌≡◌, ℕ, zero, suc, ◌+◌, Bool, true, false, ◌||◌, [], ◌∷◌, ◌++◌, sym, refl, ap, ◌∙◌, zero-add, add-one}
use Rattle.std.specs.List.{range_with_len, list_any}
use Rattle.std.proofs.lemmas.List.{map-id}
use Rattle.std.proofs.lemmas.List.Folds.{list_any-append}
use Rattle.std.proofs.lemmas.List.FromFn.{map-range_with_len_more}

one_more : (n : ℕ) → range_with_len 0 (suc n) ≡ range_with_len 0 n ++ n ∷ []
one_more n =
    ap (range_with_len 0) (sym (add-one n)) ∙ sym (map-id (range_with_len 0 (n + 1))) ∙ map-range_with_len_more (λ x. x) 0 n n (zero-add n)
    ∙ ap (λ xs. xs ++ n ∷ []) (map-id (range_with_len 0 n))

any_turned : (x y : Bool) → (y || (x || false)) ≡ (x || y)
any_turned true true = refl
any_turned true false = refl
any_turned false true = refl
any_turned false false = refl

pub any_below : (p q : ℕ → Bool) → q 0 ≡ false → ((k : ℕ) → q (suc k) ≡ (p k || q k)) → (n : ℕ) → list_any p (range_with_len 0 n) ≡ q n
any_below p q none more zero = sym none
any_below p q none more (suc n) =
    ap (list_any p) (one_more n) ∙ list_any-append p (range_with_len 0 n) (n ∷ []) ∙ any_turned (p n) (list_any p (range_with_len 0 n))
    ∙ ap (λ b. p n || b) (any_below p q none more n) ∙ sym (more n)
