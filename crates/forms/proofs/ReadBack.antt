-- A line that is spelled is read back. Assumes nothing.
use Rattle.std.proofs.Common.{◌≡◌, ℕ, zero, suc, ◌+◌, ◌<◌, true, cond, List, [], ◌∷◌, ◌++◌, length, get_or, take, drop, decimal, sym, refl, ap, ◌∙◌, add-zero, one-add, arith}
use Rattle.std.specs.Char.{is_ascii_digit}
use Rattle.std.specs.List.{prefix_len}
use Rattle.std.specs.Str.{all_ascii_digits}
use Rattle.std.proofs.lemmas.List.{append_assoc, take_at, drop_at, drop-drop, length-append, length-drop, get_or-drop}
use Rattle.std.proofs.lemmas.Bool.{cond-true, and_parts}
use Rattle.std.proofs.lemmas.Bool.Decides.{nat_tests}
use Rattle.forms.specs.declared.form.Form.{Form}
use Rattle.forms.specs.declared.form.Form.TheVariants.{Sporadic, Angular, Mode, Link, End}
use Rattle.forms.specs.declared.keyword.Keyword.{Keyword}
use Rattle.forms.specs.declared.keyword.Keyword.TheVariants.{Sporadic as sporadic, Angular as angular, Mode as mode, Link as link, End as end}
use Rattle.forms.specs.Format.{keyword, numbers, field, fields, spell, Small, Sound}
use Rattle.forms.specs.Numbers.{number_of}
use Rattle.forms.specs.Places.{At, rest_of, forward, next_line, next_is}
use Rattle.forms.specs.Words.{in_word, word_len, by_number, word_at, token_at, past_word}
use Rattle.forms.specs.Lines.{done, failed, after, number_from, number_at, field_of, Makes, fields_of, body_of, form_from, form_of, or_back, line_of}
use Rattle.forms.proofs.Numerals.{number_spelled, all_digits}

-- What stands after the bytes xs.
pub rest_past : (s : At) (xs ys : List ℕ) → rest_of s ≡ xs ++ ys → rest_of (forward (length xs) s) ≡ ys
rest_past s xs ys e = sym (drop-drop (length xs) s.pos s.text) ∙ ap (drop (length xs)) e ∙ drop_at xs ys _ refl

next_is_lem : (s : At) (b : ℕ) (ys : List ℕ) → rest_of s ≡ b ∷ ys → next_is b s ≡ true
next_is_lem s b ys e =
    let l = length-drop s.pos s.text in
    let m = ap length e in
    let g = get_or-drop s.pos s.text 0 0 in
    let h = ap (λ xs. get_or xs 0 0) e in
    let z = add-zero s.pos in
    grind (arith, nat_tests)

-- A word w that ends where more begins.
module _ (s : At) (w more : List ℕ) (here : rest_of s ≡ w ++ more) (ends : word_len (w ++ more) ≡ length w) where
  long : word_len (rest_of s) ≡ length w
  long = ap word_len here ∙ ends

  word_here : word_at s ≡ w
  word_here = (λ i. take (long i) (here i)) ∙ take_at w more _ refl

  token_here : token_at s ≡ by_number s.pos w (number_of w)
  unfolding token_at
  token_here = ap (λ bs. by_number s.pos bs (number_of bs)) word_here

  past_here : past_word s ≡ forward (length w) s
  unfolding past_word
  past_here = ap (λ n. forward n s) long

leading_all : (xs ys : List ℕ) → all_ascii_digits xs ≡ true → prefix_len in_word ys ≡ 0 → prefix_len in_word (xs ++ ys) ≡ length xs
leading_all [] ys h z = z
leading_all (x ∷ xs) ys h z =
    let p = and_parts (is_ascii_digit x) (all_ascii_digits xs) h in
    let w : in_word x ≡ true = grind (arith, nat_tests) in
    cond-true _ _ _ w ∙ ap (λ n. 1 + n) (leading_all xs ys p.1 z) ∙ one-add (length xs)

decimal_ends : (n : ℕ) (more : List ℕ) → n < 1000000 → word_len more ≡ 0 → word_len (decimal n ++ more) ≡ length (decimal n)
unfolding word_len
decimal_ends n more small ends = leading_all (decimal n) more (all_digits n small) ends

number_read : (s : At) (n : ℕ) (more : List ℕ) → n < 1000000 → word_len more ≡ 0 → rest_of s ≡ decimal n ++ more → number_at s ≡ done n (forward (length (decimal n)) s)
number_read s n more small ends e =
    let l = decimal_ends n more small ends in
    let t = token_here s (decimal n) more e l ∙ ap (by_number s.pos (decimal n)) (number_spelled n small) in
    (λ i. number_from (t i) (past_here s (decimal n) more e l i))

pub field_read : (s : At) (n : ℕ) (more : List ℕ) → n < 1000000 → word_len more ≡ 0 → rest_of s ≡ field n ++ more → field_of s ≡ done n (forward (length (field n)) s)
field_read s n more small ends e =
    let k : s.pos + 1 + length (decimal n) ≡ s.pos + length (field n) = omega arith in
    ap (λ b. after (cond b (done tt (forward 1 s)) (failed s)) (λ _ t. number_at t)) (next_is_lem s 32 (decimal n ++ more) e)
    ∙ number_read (forward 1 s) n more small ends (rest_past s (32 ∷ []) (decimal n ++ more) e)
    ∙ ap (λ p. done n (record { text = s.text; line = s.line; pos = p })) k

-- n numbers, the list of them, and the form that they make.
abbrev pub Numbers : ℕ → Type 0
Numbers zero = Unit {0}
Numbers (suc n) = ℕ × Numbers n

abbrev pub listed : (n : ℕ) → Numbers n → List ℕ
listed zero xs = []
listed (suc n) xs = xs.0 ∷ listed n xs.1

abbrev pub made : (n : ℕ) → Makes n → Numbers n → Form
made zero f xs = f
made (suc n) make xs = made n (make xs.0) xs.1

fields_end : (ns more : List ℕ) → word_len (fields ns ++ (10 ∷ more)) ≡ 0
unfolding word_len
fields_end [] more = refl
fields_end (n ∷ ns) more = refl

fields_read : (n : ℕ) (make : Makes n) (xs : Numbers n) (s : At) (more : List ℕ) → Small (listed n xs) → rest_of s ≡ fields (listed n xs) ++ (10 ∷ more) → fields_of n make s ≡ done (made n make xs) (next_line (forward (length (fields (listed n xs)) + 1) s))
fields_read zero f xs s more small e =
    ap (λ b. after (cond b (done tt (next_line (forward 1 s))) (failed s)) (λ _ t. done f t)) (next_is_lem s 10 more e)
fields_read (suc n) make xs s more small e =
    let l = fields (listed n xs.1) in
    let f = field xs.0 in
    let h = e ∙ append_assoc f l (10 ∷ more) in
    let k : s.pos + length f + (length l + 1) ≡ s.pos + (length (f ++ l) + 1) = omega (arith, length-append f l) in
    ap (λ o. after o (λ v t. fields_of n (make v) t)) (field_read s xs.0 (l ++ (10 ∷ more)) small.0 (fields_end (listed n xs.1) more) h)
    ∙ fields_read n (make xs.0) xs.1 (forward (length f) s) more small.1 (rest_past s f (l ++ (10 ∷ more)) h)
    ∙ ap (λ p. done (made n (make xs.0) xs.1) (record { text = s.text; line = s.line + 1; pos = p })) k

pub spell_on : (f : Form) (more : List ℕ) → spell f ++ more ≡ keyword f ++ (fields (numbers f) ++ (10 ∷ more))
unfolding spell
spell_on f more = append_assoc (keyword f) (fields (numbers f) ++ (10 ∷ [])) more ∙ ap (λ l. keyword f ++ l) (append_assoc (fields (numbers f)) (10 ∷ []) more)

pub spell_long : (f : Form) → length (spell f) ≡ length (keyword f) + (length (fields (numbers f)) + 1)
unfolding spell
spell_long f = length-append (keyword f) (fields (numbers f) ++ (10 ∷ [])) ∙ ap (λ n. length (keyword f) + n) (length-append (fields (numbers f)) (10 ∷ []))

abbrev key_for : Form → Keyword
key_for (Sporadic n c t d) = sporadic
key_for (Angular n) = angular
key_for (Mode c d) = mode
key_for (Link a b p) = link
key_for (End k z) = end

-- The place after the line that f spells at s.
abbrev pub past_line : Form → At → At
past_line f s = next_line (forward (length (spell f)) s)

keyword_ends : (f : Form) (more : List ℕ) → word_len (keyword f ++ (fields (numbers f) ++ (10 ∷ more))) ≡ length (keyword f)
unfolding word_len
keyword_ends (Sporadic n c t d) more = refl
keyword_ends (Angular n) more = refl
keyword_ends (Mode c d) more = refl
keyword_ends (Link a b p) more = refl
keyword_ends (End k z) more = refl

keyword_read : (f : Form) (p : ℕ) (s : At) → form_from (by_number p (keyword f) (number_of (keyword f))) s ≡ body_of (key_for f) s
unfolding number_of
keyword_read (Sporadic n c t d) p s = refl
keyword_read (Angular n) p s = refl
keyword_read (Mode c d) p s = refl
keyword_read (Link a b p) q s = refl
keyword_read (End k z) p s = refl

body_read : (f : Form) (s : At) (more : List ℕ) → Sound f → rest_of s ≡ fields (numbers f) ++ (10 ∷ more) → body_of (key_for f) s ≡ done f (next_line (forward (length (fields (numbers f)) + 1) s))
body_read (Sporadic n c t d) s more h e = fields_read 4 Sporadic (n, (c, (t, (d, tt)))) s more h e
body_read (Angular n) s more h e = fields_read 1 Angular (n, tt) s more h e
body_read (Mode c d) s more h e = fields_read 2 Mode (c, (d, tt)) s more h e
body_read (Link a b p) s more h e = fields_read 3 Link (a, (b, (p, tt))) s more h e
body_read (End k z) s more h e = fields_read 2 End (k, (z, tt)) s more h e

pub form_read : (f : Form) → Sound f → (s : At) (more : List ℕ) → rest_of s ≡ spell f ++ more → form_of s ≡ done f (past_line f s)
unfolding form_of
form_read f h s more e =
    let w = keyword f in
    let l = fields (numbers f) ++ (10 ∷ more) in
    let g = e ∙ spell_on f more in
    let ends = keyword_ends f more in
    let k : s.pos + length w + (length (fields (numbers f)) + 1) ≡ s.pos + length (spell f) = omega (arith, spell_long f) in
    (λ i. form_from (token_here s w l g ends i) (past_here s w l g ends i))
    ∙ keyword_read f s.pos (forward (length w) s)
    ∙ body_read f (forward (length w) s) more h (rest_past s w l g)
    ∙ ap (λ p. done f (record { text = s.text; line = s.line + 1; pos = p })) k

-- The spelling of a sound form is read back, whatever follows it.
pub line_read : (f : Form) → Sound f → (s : At) (more : List ℕ) → rest_of s ≡ spell f ++ more → (line_of s ≡ done f (past_line f s)) × (rest_of (past_line f s) ≡ more)
line_read f h s more e = (ap (or_back s) (form_read f h s more e), rest_past s (spell f) more e)
