-- What a write leaves, and how long a number is. Assumes nothing.
use Rattle.std.proofs.Common.{◌≡◌, Option, Some, None, IfSome, IfNone, MatchOption, ℕ, zero, suc, ◌+◌, ◌-◌, ◌*◌, ◌/◌, ◌%◌, ◌^◌, ◌<◌, ◌≤◌, List, [], ◌∷◌, ◌++◌, length, get_or, take, drop, set, sum_by, decimal, sym, refl, ap, ◌∙◌, add_assoc, add-one, arith}
use native.Mathlib.Nat.{pow-succ'}
use Rattle.std.proofs.Math.Nat.{pow-le-pow_right}
use Rattle.std.proofs.lemmas.Fmt.{decimal_digit, decimal_step, length-decimal-le}
use Rattle.std.proofs.lemmas.List.Sums.{sum_by-cons}
use Rattle.std.proofs.lemmas.List.{append_assoc, append-nil, take_more, length-append, length_push, length-take-le, length-drop, take-append-drop, take_at, drop_at, drop-drop, set_split}
use Rattle.forms.specs.Format.{field, fields}
use Rattle.writer.specs.Output.{overwrite, Wrote, line_of}

pub len_one : (n : ℕ) → n < 10 → length (decimal n) ≡ 1
len_one n h = ap length (decimal_digit n h)

pub len_more : (n : ℕ) → 10 ≤ n → n < 2 ^ 64 → length (decimal n) ≡ length (decimal (n / 10)) + 1
len_more n h small = ap length (decimal_step n h small) ∙ length_push (decimal (n / 10)) (48 + n % 10)

pub length_overwrite : (xs : List ℕ) (at : ℕ) (ys : List ℕ) → at + length ys ≤ length xs → length (overwrite xs at ys) ≡ length xs
unfolding overwrite
length_overwrite xs at ys h =
    let t = length-take-le at xs (omega arith) in
    simp (length-append, length-drop) (omega arith)

pub overwrite_one : (xs : List ℕ) (at c : ℕ) → at < length xs → set xs at c ≡ overwrite xs at (c ∷ [])
unfolding overwrite
overwrite_one xs at c h = set_split xs at c h ∙ ap (λ k. take at xs ++ (c ∷ drop k xs)) (sym (add-one at))

module _ (xs : List ℕ) (at : ℕ) (ys : List ℕ) (h : at + length ys ≤ length xs) where
  front_long : length (take at xs ++ ys) ≡ at + length ys
  front_long = let t = length-take-le at xs (omega arith) in simp length-append (omega arith)

  regrouped : overwrite xs at ys ≡ (take at xs ++ ys) ++ drop (at + length ys) xs
  unfolding overwrite
  regrouped = sym (append_assoc (take at xs) ys (drop (at + length ys) xs))

  pub front_written : take (at + length ys) (overwrite xs at ys) ≡ take at xs ++ ys
  front_written = ap (λ l. take (at + length ys) l) regrouped ∙ take_at (take at xs ++ ys) _ _ front_long

  pub back_kept : drop (at + length ys) (overwrite xs at ys) ≡ drop (at + length ys) xs
  back_kept = ap (λ l. drop (at + length ys) l) regrouped ∙ drop_at (take at xs ++ ys) _ _ front_long

  pub back_after : (k : ℕ) → drop (at + length ys + k) (overwrite xs at ys) ≡ drop (at + length ys + k) xs
  back_after k = sym (drop-drop k (at + length ys) (overwrite xs at ys)) ∙ ap (λ l. drop k l) back_kept ∙ drop-drop k (at + length ys) xs

pub overwrite_more : (xs : List ℕ) (at : ℕ) (ys zs : List ℕ) → at + length ys ≤ length xs → overwrite (overwrite xs at ys) (at + length ys) zs ≡ overwrite xs at (ys ++ zs)
unfolding overwrite
overwrite_more xs at ys zs h =
    let k : at + length ys + length zs ≡ at + length (ys ++ zs) = add_assoc at (length ys) (length zs) ∙ ap (λ n. at + n) (sym (length-append ys zs)) in
    (λ i. front_written xs at ys h i ++ (zs ++ (back_after xs at ys h (length zs) ∙ ap (λ n. drop n xs) k) i))
    ∙ append_assoc (take at xs) ys (zs ++ drop (at + length (ys ++ zs)) xs)
    ∙ ap (λ l. take at xs ++ l) (sym (append_assoc ys zs (drop (at + length (ys ++ zs)) xs)))

-- One more digit after those of the front.
pub digit_more : (out xs : List ℕ) (place at n d : ℕ) → d ≡ 48 + n % 10 → 10 ≤ n → n < 2 ^ 64 → at + length (decimal n) ≤ length xs → out ≡ overwrite xs at (decimal (n / 10)) → place ≡ at + length (decimal (n / 10)) → set out place d ≡ overwrite xs at (decimal n)
digit_more out xs place at n d is h small room e p =
    let ds = decimal (n / 10) in
    let l = len_more n h small in
    let k : at + length ds ≤ length xs = omega arith in
    let m = length_overwrite xs at ds k in
    (λ i. set (e i) (p i) (is i))
    ∙ overwrite_one (overwrite xs at ds) (at + length ds) (48 + n % 10) (omega arith)
    ∙ overwrite_more xs at ds ((48 + n % 10) ∷ []) k
    ∙ ap (λ l. overwrite xs at l) (sym (decimal_step n h small))

pub digit_alone : (out xs : List ℕ) (place at n d : ℕ) → d ≡ 48 + n % 10 → n < 10 → at + length (decimal n) ≤ length xs → out ≡ xs → place ≡ at → set out place d ≡ overwrite xs at (decimal n)
digit_alone out xs place at n d is h room e p =
    let l = len_one n h in
    let same : d ≡ 48 + n = omega arith in
    (λ i. set (e i) (p i) (same i))
    ∙ overwrite_one xs at (48 + n) (omega arith)
    ∙ ap (λ l. overwrite xs at l) (sym (decimal_digit n h))

pub bytes_written : (xs ys now : List ℕ) (at : ℕ) → now ≡ ys → take at xs ++ (now ++ drop (at + length ys - at) (drop at xs)) ≡ overwrite xs at ys
unfolding overwrite
bytes_written xs ys now at e =
    let k : at + (at + length ys - at) ≡ at + length ys = omega arith in
    (λ i. take at xs ++ (e i ++ (drop-drop (at + length ys - at) at xs ∙ ap (λ n. drop n xs) k) i))

pub wrote_more : {xs : List ℕ} {at : ℕ} {ys : List ℕ} {out : List ℕ} {p : ℕ} {zs out' : List ℕ} {p' : ℕ} → Wrote xs at ys out p → Wrote out p zs out' p' → Wrote xs at (ys ++ zs) out' p'
wrote_more {xs} {at} {ys} {out} {p} {zs} {out'} {p'} a b =
    let l = length-append ys zs in
    let m = ap length a.bytes ∙ length_overwrite xs at ys a.fits in
    record {
      fits = omega (arith, a.fits, a.ends, b.fits);
      ends = omega (arith, a.ends, b.ends);
      bytes = b.bytes ∙ (λ i. overwrite (a.bytes i) (a.ends i) zs) ∙ overwrite_more xs at ys zs a.fits;
    }

pub wrote_none : (xs : List ℕ) (at : ℕ) → at ≤ length xs → Wrote xs at [] xs at
unfolding overwrite
wrote_none xs at h =
    let z : at + 0 ≡ at = omega arith in
    record { fits = omega arith; ends = sym z; bytes = sym (take-append-drop at xs) ∙ ap (λ n. take at xs ++ drop n xs) (sym z) }

-- One byte was set.
pub wrote_one : (xs now : List ℕ) (at c end : ℕ) → at < length xs → end ≡ at + 1 → now ≡ set xs at c → Wrote xs at (c ∷ []) now end
wrote_one xs now at c end h e b = record { fits = omega arith; ends = e; bytes = b ∙ overwrite_one xs at c h }

-- The length stays.
pub wrote_length : {xs : List ℕ} {at : ℕ} {ys : List ℕ} {out : List ℕ} {p : ℕ} → Wrote xs at ys out p → length out ≡ length xs
wrote_length {xs} {at} {ys} w = ap length w.bytes ∙ length_overwrite xs at ys w.fits

fields_append : (xs ys : List ℕ) → fields (xs ++ ys) ≡ fields xs ++ fields ys
fields_append [] ys = refl
fields_append (x ∷ xs) ys = ap (λ l. field x ++ l) (fields_append xs ys) ∙ sym (append_assoc (field x) (fields xs) (fields ys))

pub fields_more : (ns : List ℕ) (i : ℕ) → i < length ns → fields (take (i + 1) ns) ≡ fields (take i ns) ++ field (get_or ns i 0)
fields_more ns i h = ap fields (take_more ns i 0 h) ∙ fields_append (take i ns) (get_or ns i 0 ∷ []) ∙ ap (λ l. fields (take i ns) ++ l) (append-nil (field (get_or ns i 0)))

pub fields_room : (ns : List ℕ) (i : ℕ) → i < length ns → length (fields (take i ns)) + length (field (get_or ns i 0)) ≤ length (fields ns)
fields_room ns i h =
    let a = ap length (ap fields (sym (take-append-drop (i + 1) ns)) ∙ fields_append (take (i + 1) ns) (drop (i + 1) ns)) ∙ length-append (fields (take (i + 1) ns)) (fields (drop (i + 1) ns)) in
    let b = ap length (fields_more ns i h) ∙ length-append (fields (take i ns)) (field (get_or ns i 0)) in
    omega arith

pub line_long : (key ns : List ℕ) → length (line_of key ns) ≡ length key + length (fields ns) + 1
line_long key ns =
    let a = length-append key (fields ns ++ (10 ∷ [])) in
    let b = length_push (fields ns) 10 in
    omega arith

-- ---- how long the numbers of a line are, summed
pub fields_sum : (ns : List ℕ) → sum_by (λ n. length (field n)) ns ≡ length (fields ns)
fields_sum [] = refl
fields_sum (n ∷ ns) = omega (arith, fields_sum ns, length-append (field n) (fields ns), sum_by-cons (λ m. length (field m)) n ns)

pub fields_short : (ns : List ℕ) → ((i : ℕ) → get_or ns i 0 < 4294967296) → length (fields ns) ≤ 11 * length ns
fields_short [] small = omega arith
fields_short (n ∷ ns) small =
    let h : n < 4294967296 = small 0 in
    omega (arith, fields_short ns (λ i. small (suc i)), length-append (field n) (fields ns), length-decimal-le 10 n (omega arith) (omega (arith, h)) (omega (arith, h)))

-- A number from 10 ^ k on and below 10 ^ (k + 1) has k + 1 digits.
pub digits_by_power : (k n : ℕ) → 10 ^ k ≤ n → n < 10 * 10 ^ k → n < 2 ^ 64 → length (decimal n) ≡ k + 1
digits_by_power zero n low high small = len_one n (omega (arith, high))
digits_by_power (suc k) n low high small =
    let p : 10 ^ suc k ≡ 10 * 10 ^ k = pow-succ' 10 k in
    let one : 1 ≤ 10 ^ k = pow-le-pow_right {n = 10} (omega arith) {i = 0} {j = k} (omega arith) in
    let more = len_more n (omega (arith, p, low, one)) small in
    let rest = digits_by_power k (n / 10) (omega (arith, p, low)) (omega (arith, p, high)) (omega (arith, small)) in
    omega (arith, more, rest)

-- How many digits a number has, by its logarithm.
pub digits_by_log : (n r : ℕ) (o : Option ℕ) → n < 2 ^ 64 → IfNone o (n ≡ 0) → IfSome o (λ k. 10 ^ k ≤ n) → IfSome o (λ k. n < 10 * 10 ^ k) → MatchOption o (r ≡ 1) (λ k. r ≡ k + 1) → r ≡ length (decimal n)
digits_by_log n r None small none low high is = omega (arith, is, len_one n (omega (arith, none)))
digits_by_log n r (Some k) small none low high is = omega (arith, is, digits_by_power k n low high small)
