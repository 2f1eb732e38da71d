-- The first of some numbers that passes a test. Assumes nothing.
use Rattle.std.proofs.Common.{◌≡◌, ℕ, zero, suc, ◌+◌, ◌<◌, ◌≤◌, Bool, true, false, cond, Some, None, sym, refl, ap, subst, inl, inr, arith}
use Rattle.std.proofs.lemmas.Bool.{cases_eq}
use Rattle.response.specs.Bounds.{first_from}

-- v is the first of n numbers from k on that passes.
pub record First (test : ℕ → Bool) (n k v : ℕ) : Type 0 where
  pub from : k ≤ v
  pub to : v < k + n
  pub passes : test v ≡ true
  pub others : (u : ℕ) → k ≤ u → u < v → test u ≡ false

-- A number that passes is the first.
pub first_here : (t : ℕ → Bool) (n k : ℕ) → 1 ≤ n → t k ≡ true → first_from t n k ≡ Some k
first_here t zero k h e = absurd (omega arith)
first_here t (suc n) k h e = rw e

pub first_end : (t : ℕ → Bool) (n k : ℕ) → n ≡ 0 → first_from t n k ≡ None
first_end t zero k h = refl
first_end t (suc n) k h = absurd (omega arith)

-- What is found is the first, and the first is found.
first_found_step : (t : ℕ → Bool) (n k v : ℕ) → t k ≡ false → First t n (suc k) v → First t (suc n) k v
first_found_step t n k v e f = record {
  from = omega (arith, f.from);
  to = omega (arith, f.to);
  passes = f.passes;
  others = λ u a b. elim (cases_eq k u) [ inl q ↦ subst (λ x. t x ≡ false) q e | inr ne ↦ f.others u (omega arith) b ];
}

pub first_found : (t : ℕ → Bool) (n k v : ℕ) → first_from t n k ≡ Some v → First t n k v
first_found t zero k v e = let z : ◌≡◌ {A = ℕ} 0 1 = cc in absurd (omega arith)
first_found t (suc n) k v e = go (first_found t n (suc k) v) (t k) refl e
  where
    go : (first_from t n (suc k) ≡ Some v → First t n (suc k) v) → (b : Bool) → t k ≡ b → cond b (Some k) (first_from t n (suc k)) ≡ Some v → First t (suc n) k v
    go later true h e = let q : k ≡ v = cc in record { from = omega arith; to = omega arith; passes = subst (λ x. t x ≡ true) q h; others = λ u a b. absurd (omega arith) }
    go later false h e = first_found_step t n k v h (later e)

pub found_first : (t : ℕ → Bool) (n k v : ℕ) → First t n k v → first_from t n k ≡ Some v
found_first t zero k v f = absurd (omega (arith, f.from, f.to))
found_first t (suc n) k v f = elim (cases_eq k v) [
  | inl q ↦ let e : t k ≡ true = subst (λ x. t x ≡ true) (sym q) f.passes in rw e (ap Some q)
  | inr ne ↦
      let e : t k ≡ false = f.others k (omega arith) (omega (arith, f.from)) in
      let rest = found_first t n (suc k) v (record { from = omega (arith, f.from); to = omega (arith, f.to); passes = f.passes; others = λ u a b. f.others u (omega arith) b }) in
      rw e rest
]

-- Nothing is found exactly if none passes.
pub first_none : (t : ℕ → Bool) (n k : ℕ) → first_from t n k ≡ None → (u : ℕ) → k ≤ u → u < k + n → t u ≡ false
first_none t zero k e u a b = absurd (omega arith)
first_none t (suc n) k e u a b = go (λ e c. first_none t n (suc k) e u c (omega arith)) (t k) refl e
  where
    go : (first_from t n (suc k) ≡ None → suc k ≤ u → t u ≡ false) → (b : Bool) → t k ≡ b → cond b (Some k) (first_from t n (suc k)) ≡ None → t u ≡ false
    go later true h e = let z : ◌≡◌ {A = ℕ} 0 1 = cc in absurd (omega arith)
    go later false h e = elim (cases_eq k u) [ inl q ↦ subst (λ x. t x ≡ false) q h | inr ne ↦ later e (omega arith) ]

pub none_first : (t : ℕ → Bool) (n k : ℕ) → ((u : ℕ) → k ≤ u → u < k + n → t u ≡ false) → first_from t n k ≡ None
none_first t zero k h = refl
none_first t (suc n) k h =
    let e : t k ≡ false = h k (omega arith) (omega arith) in
    let rest = none_first t n (suc k) (λ u a b. h u (omega arith) (omega arith)) in
    rw e rest
