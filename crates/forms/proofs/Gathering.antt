-- Numbers that are read one after another. Assumes nothing.
use Rattle.std.proofs.Common.{◌≡◌, ℕ, suc, ◌+◌, ◌-◌, ◌<◌, ◌≤◌, List, [], ◌∷◌, ◌++◌, sym, refl, ap, ◌∙◌, arith}
use Rattle.std.proofs.lemmas.List.{append_assoc, append-nil}
use Rattle.forms.specs.Places.{At}
use Rattle.forms.specs.Lines.{Step, done, failed, after, line_end_of, field_of, numbers_of}

-- What is read, behind numbers that were read before.
abbrev pub behind : List ℕ → Step (List ℕ) → Step (List ℕ)
behind xs step = after step (λ vs u. done (xs ++ vs) u)

pub behind_none : (step : Step (List ℕ)) → behind [] step ≡ step
behind_none (done vs u) = refl
behind_none (failed u) = refl

one_behind : (xs : List ℕ) (v : ℕ) (step : Step (List ℕ)) → behind xs (after step (λ vs u. done (v ∷ vs) u)) ≡ behind (xs ++ v ∷ []) step
one_behind xs v (done vs u) = ap (λ l. done l u) (sym (append_assoc xs (v ∷ []) vs))
one_behind xs v (failed u) = refl

pub one_more : (xs : List ℕ) (n i : ℕ) → i < n → (s t : At) (v : ℕ) → done v t ≡ field_of s → behind xs (numbers_of (n - i) s) ≡ behind (xs ++ v ∷ []) (numbers_of (n - (i + 1)) t)
one_more xs n i h s t v e =
    let k : n - i ≡ suc (n - (i + 1)) = omega arith in
    ap (λ j. behind xs (numbers_of j s)) k
    ∙ ap (λ (f : Step ℕ). behind xs (after f (λ w u. after (numbers_of (n - (i + 1)) u) (λ vs x. done (w ∷ vs) x)))) (sym e)
    ∙ one_behind xs v (numbers_of (n - (i + 1)) t)

pub no_more : (xs : List ℕ) (n i : ℕ) → i < n → (s t : At) → failed t ≡ field_of s → behind xs (numbers_of (n - i) s) ≡ failed t
no_more xs n i h s t e =
    let k : n - i ≡ suc (n - (i + 1)) = omega arith in
    ap (λ j. behind xs (numbers_of j s)) k
    ∙ ap (λ (f : Step ℕ). behind xs (after f (λ w u. after (numbers_of (n - (i + 1)) u) (λ vs x. done (w ∷ vs) x)))) (sym e)

pub all_read : (xs : List ℕ) (n i : ℕ) → n ≤ i → (s t : At) → done tt t ≡ line_end_of s → behind xs (numbers_of (n - i) s) ≡ done xs t
all_read xs n i h s t e =
    let k : n - i ≡ 0 = omega arith in
    ap (λ j. behind xs (numbers_of j s)) k
    ∙ ap (λ (f : Step (Unit {0})). behind xs (after f (λ _ u. done [] u))) (sym e)
    ∙ ap (λ l. done l t) (append-nil xs)

pub not_ended : (xs : List ℕ) (n i : ℕ) → n ≤ i → (s t : At) → failed t ≡ line_end_of s → behind xs (numbers_of (n - i) s) ≡ failed t
not_ended xs n i h s t e =
    let k : n - i ≡ 0 = omega arith in
    ap (λ j. behind xs (numbers_of j s)) k
    ∙ ap (λ (f : Step (Unit {0})). behind xs (after f (λ _ u. done [] u))) (sym e)
