-- The calls of a list, step by step. Assumes nothing.
use Rattle.std.proofs.Common.{◌≡◌, ℕ, zero, suc, ◌+◌, ◌<◌, ◌≤◌, true, false, cond, List, [], ◌∷◌, length, take, drop, Some, None, Option, nat_lt, refl, sym, ap, ◌∙◌, arith, length-drop, unwrap_or}
use Rattle.calls.specs.Words.{behind, prefix_length}
use Rattle.calls.specs.Lists.{Read, alone, load_of, opened, load_length, entry_of, first_read, calls_within, calls_of}
use Rattle.calls.specs.Words.{front}
use Rattle.calls.specs.declared.call.Entry.{Entry}
use Rattle.calls.specs.declared.call.Entry.TheVariants as entry
use Rattle.calls.specs.declared.call.Call.TheVariants as call

-- What follows the first line of a list is shorter than the list.
line_passed : (b : ℕ) (bs : List ℕ) (e : ℕ) → length (unwrap_or (behind (b ∷ bs) e) []) ≤ length bs
line_passed b bs e =
    elim (nat_lt (prefix_length (b ∷ bs) e) (length (b ∷ bs))) as (λ t. length (unwrap_or (cond t (Some (drop (prefix_length (b ∷ bs) e + 1) (b ∷ bs))) None) []) ≤ length bs)
    [ true ↦ omega (arith, length-drop (prefix_length (b ∷ bs) e + 1) (b ∷ bs)) | false ↦ omega arith ]

loaded : (n : ℕ) (rest : List ℕ) → length (load_of n rest).rest ≤ length rest
loaded n rest =
    elim (nat_lt n (length rest)) as (λ t. length (cond t (record { entry = entry.Call (call.Load n); text = take n rest; rest = drop (n + 1) rest }) (alone entry.Unknown rest)).rest ≤ length rest)
    [ true ↦ omega (arith, length-drop (n + 1) rest) | false ↦ omega arith ]

opened_shorter : (o : Option ℕ) (e : Entry) (rest : List ℕ) → length (opened o e rest).rest ≤ length rest
opened_shorter None e rest = omega arith
opened_shorter (Some n) e rest = loaded n rest

-- What follows the first call of a list is shorter than the list.
call_passed : (b : ℕ) (bs : List ℕ) → length (first_read (b ∷ bs)).rest ≤ length bs
call_passed b bs =
    let line = line_passed b bs 10 in
    let text = opened_shorter (load_length (entry_of (front (b ∷ bs) 10))) (entry_of (front (b ∷ bs) 10)) (unwrap_or (behind (b ∷ bs) 10) []) in
    omega (arith, line, text)

-- Any bound that the list keeps to gives the same calls.
same_calls : (n m : ℕ) (bs : List ℕ) → length bs ≤ n → length bs ≤ m → calls_within n bs ≡ calls_within m bs
same_calls zero zero bs h k = refl
same_calls zero (suc m) [] h k = refl
same_calls zero (suc m) (b ∷ bs) h k = absurd (omega arith)
same_calls (suc n) zero [] h k = refl
same_calls (suc n) zero (b ∷ bs) h k = absurd (omega arith)
same_calls (suc n) (suc m) [] h k = refl
same_calls (suc n) (suc m) (b ∷ bs) h k =
    let short = call_passed b bs in
    ap (λ cs. first_read (b ∷ bs) ∷ cs) (same_calls n m (first_read (b ∷ bs)).rest (omega arith) (omega arith))

more : (bs : List ℕ) → 0 < length bs → calls_of bs ≡ first_read bs ∷ calls_of (first_read bs).rest
unfolding calls_of
more [] h = absurd (omega arith)
more (b ∷ bs) h = ap (λ cs. first_read (b ∷ bs) ∷ cs) (same_calls (length bs) (length (first_read (b ∷ bs)).rest) (first_read (b ∷ bs)).rest (call_passed b bs) (omega arith))

-- The first call, and those of what follows it.
pub calls_more : (bs : List ℕ) (r : Read) → 0 < length bs → r ≡ first_read bs → calls_of bs ≡ r ∷ calls_of r.rest
calls_more bs r h e = more bs h ∙ ap (λ (x : Read). x ∷ calls_of x.rest) (sym e)

-- An empty list has no calls.
pub calls_none : (bs : List ℕ) → length bs ≡ 0 → calls_of bs ≡ []
unfolding calls_of
calls_none [] h = refl
calls_none (b ∷ bs) h = absurd (omega arith)
