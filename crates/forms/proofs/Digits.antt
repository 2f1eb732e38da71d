-- The digits of a plain word: there are too few to pass its limit. Assumes nothing.
use Rattle.std.proofs.Common.{◌≡◌, ℕ, ◌+◌, ◌-◌, ◌*◌, ◌^◌, ◌<◌, ◌≤◌, Bool, true, false, cond, ◌&&◌, nat_le, List, [], ◌∷◌, length, Option, Some, None, IfSome, MatchOption, sym, refl, ap, subst, ◌∙◌, add-one, arith}
use native.Mathlib.Nat.{pow-succ'}
use Rattle.std.proofs.lemmas.Option.{none-some, same_Some}
use Rattle.std.specs.Iterator.{AlwaysYields, Yields, TryFoldTurn}
use Rattle.std.specs.ControlFlow.{continue_value}
use Rattle.std.specs.Fn.{Called, Mut}
use Rattle.std.specs.List.{FoldsTo}
use Rattle.std.proofs.Math.Nat.{pow-le-pow_right}
use Rattle.std.proofs.lemmas.Bool.Decides.{nat_tests}
use Rattle.std.specs.Char.{is_ascii_digit}
use Rattle.forms.specs.Numbers.{digits_up_to, digits_from}

ten_more : (i : ℕ) → 10 ^ (i + 1) ≡ 10 * 10 ^ i
ten_more i = rw add-one (pow-succ' 10 i)

digit_small : (c : ℕ) → is_ascii_digit c ≡ true → c - 48 ≤ 9
digit_small c e = grind (arith, nat_tests)

within : (n : ℕ) → n ≤ 999999 → nat_le n 999999 ≡ true
within n h = grind (arith, nat_tests)

digit_kept : (n c : ℕ) (cs : List ℕ) (b : Bool) → is_ascii_digit c ≡ b
    → (b ≡ true → (n * 10 + (c - 48) ≤ 999999) × (digits_up_to 999999 (n * 10 + (c - 48)) cs ≡ digits_from (n * 10 + (c - 48)) cs))
    → digits_up_to 999999 n (c ∷ cs) ≡ digits_from n (c ∷ cs)
digit_kept n c cs true e later =
    let x = n * 10 + (c - 48) in
    let p = later refl in
    (λ i. cond (e i && within x p.0 i) (digits_up_to 999999 x cs) None) ∙ p.1 ∙ sym (ap (λ b. cond b (digits_from x cs) None) e)
digit_kept n c cs false e later =
    let x = n * 10 + (c - 48) in
    (λ i. cond (e i && nat_le x 999999) (digits_up_to 999999 x cs) None) ∙ sym (ap (λ b. cond b (digits_from x cs) None) e)

-- Six digits do not pass 999,999.
pub digits_few : (k n : ℕ) (cs : List ℕ) → n < 10 ^ k → k + length cs ≤ 6 → digits_up_to 999999 n cs ≡ digits_from n cs
digits_few k n [] h few = refl
digits_few k n (c ∷ cs) h few =
    let x = n * 10 + (c - 48) in
    digit_kept n c cs (is_ascii_digit c) refl (λ e.
    let small : x < 10 ^ (k + 1) = omega (arith, h, ten_more k, digit_small c e) in
    let most : 10 ^ (k + 1) ≤ 10 ^ 6 = pow-le-pow_right {n = 10} (omega arith) {i = k + 1} {j = 6} (omega arith) in
    (omega (arith, small, most), digits_few (k + 1) x cs small (omega arith)))

module _ (limit : ℕ) where
  one_more : (b : Bool) (x m : ℕ) → Some m ≡ cond b (Some x) None → (b ≡ true) × (m ≡ x)
  one_more true x m e = (refl, same_Some m x e)
  one_more false x m e = absurd (none-some m (sym e))

  none_more : (b : Bool) (x : ℕ) → None ≡ cond b (Some x) None → b ≡ false
  none_more true x e = absurd (none-some x e)
  none_more false x e = refl

  -- After a digit that may stand, the others follow; after one that may not, nothing does.
  digit_on : (n c m : ℕ) (cs : List ℕ) → Some m ≡ digits_up_to limit n (c ∷ []) → digits_up_to limit n (c ∷ cs) ≡ digits_up_to limit m cs
  digit_on n c m cs e =
      let x = n * 10 + (c - 48) in
      let p = one_more (is_ascii_digit c && nat_le x limit) x m e in
      ap (λ b. cond b (digits_up_to limit x cs) None) p.0 ∙ ap (λ k. digits_up_to limit k cs) (sym p.1)

  digit_off : (n c : ℕ) (cs : List ℕ) → None ≡ digits_up_to limit n (c ∷ []) → digits_up_to limit n (c ∷ cs) ≡ None
  digit_off n c cs e =
      let x = n * 10 + (c - 48) in
      ap (λ b. cond b (digits_up_to limit x cs) None) (none_more (is_ascii_digit c && nat_le x limit) x e)

  digit_within : (n c m : ℕ) → Some m ≡ digits_up_to limit n (c ∷ []) → m ≤ limit
  digit_within n c m e = grind (arith, nat_tests)

  module _ {S A F : Type 0} (steps : S → Option A → S → Type 0) (v : A → ℕ) (g : Mut F (ℕ × (A × Unit {0})) (Option ℕ)) (f : F)
      (k : (n : ℕ) (x : A) (r : Option ℕ) (q : F) → Called g f (n, (x, tt)) r q → (q ≡ f) × (r ≡ digits_up_to limit n (v x ∷ []))) where
    -- What a call at an item answers.
    called : (p : F × ℕ) (x : A) (w : Option ℕ) (h : F) (d : ℕ) → p.0 ≡ f → v x ≡ d → Called g p.0 (p.1, (x, tt)) w h → (h ≡ f) × (w ≡ digits_up_to limit p.1 (d ∷ []))
    called p x w h d at is c =
        let m = k p.1 x w h (subst (λ i. Called g i (p.1, (x, tt)) w h) at c) in
        (m.0, m.1 ∙ ap (λ b. digits_up_to limit p.1 (b ∷ [])) is)

    -- A fold that breaks off at the first item that is no digit, or passes the limit.
    pub folded : (E : Type 0) (ds : List ℕ) (xs : List A) (o : Option A) (s t u : S) (p q : F × ℕ) (r : Option ℕ) → AlwaysYields steps v s ds → Yields steps s xs t → steps t o u → p.0 ≡ f
        → FoldsTo {P = F × ℕ} (TryFoldTurn {E = E} g (λ o c. o ≡ continue_value c)) p xs q
        → MatchOption o (r ≡ Some q.1) (λ x. (w : Option ℕ) × (h : F) × (e : E) × Called g q.0 (q.1, (x, tt)) w h × (w ≡ None) × (r ≡ None))
        → r ≡ digits_up_to limit p.1 ds
    folded E [] [] None s t u p q r a y z at c d = d ∙ ap (λ (n : F × ℕ). Some n.1) (sym c)
    folded E (b ∷ ds) [] None s t u p q r a y z at c d = absurd (a.0 u (subst (λ i. steps i None u) (sym y) z))
    folded E [] [] (Some x) s t u p q r a y z at c d = absurd (a x u (subst (λ i. steps i (Some x) u) (sym y) z))
    folded E (b ∷ ds) [] (Some x) s t u p q r a y z at c d =
        let n = a.1 x u (subst (λ i. steps i (Some x) u) (sym y) z) in
        let same : q ≡ p = sym c in
        let m = called q x d.0 d.1 b (ap (λ (i : F × ℕ). i.0) same ∙ at) n.0 d.3 in
        d.5 ∙ sym (digit_off q.1 b ds (sym d.4 ∙ m.1)) ∙ ap (λ (i : F × ℕ). digits_up_to limit i.1 (b ∷ ds)) same
    folded E [] (x ∷ xs) o s t u p q r a y z at c d = absurd (a x y.0 y.1)
    folded E (b ∷ ds) (x ∷ xs) o s t u p q r a y z at c d =
        let n = a.1 x y.0 y.1 in
        let m = called p x c.1.0 c.0.0 b at n.0 c.1.1 in
        folded E ds xs o y.0 t u c.0 q r n.1 y.2 z m.0 c.2 d ∙ sym (digit_on p.1 b c.0.1 ds (sym c.1.2 ∙ m.1))

  kept : (x : ℕ) (o : Option ℕ) (d e : Bool) → nat_le x limit ≡ e → (x ≤ limit → IfSome o (λ m. m ≤ limit)) → IfSome (cond (d && e) o None) (λ m. m ≤ limit)
  kept x o false e at h = tt
  kept x o true false at h = tt
  kept x o true true at h = h (grind (arith, nat_tests))

  -- The number that digits spell passes no limit.
  pub digits_within : (n : ℕ) (ds : List ℕ) → n ≤ limit → IfSome (digits_up_to limit n ds) (λ m. m ≤ limit)
  digits_within n [] h = h
  digits_within n (c ∷ ds) h =
      let x = n * 10 + (c - 48) in
      kept x (digits_up_to limit x ds) (is_ascii_digit c) (nat_le x limit) refl (λ le. digits_within x ds le)
