-- A text that is read as a form is that form's spelling. Assumes nothing.
use Rattle.std.proofs.Common.{◌≡◌, ℕ, zero, suc, ◌<◌, Bool, true, false, cond, List, [], ◌∷◌, ◌++◌, Some, None, codes, decimal, Option, sym, refl, ap, ◌∙◌, subst, arith, ltb-true}
use Rattle.std.proofs.lemmas.Slice.Eq.{text_from_reads, HasBytesAt}
use Rattle.std.proofs.lemmas.List.{append_assoc, take-append-drop, drop-drop, drop_more}
use Rattle.std.proofs.lemmas.Bool.{and_parts, eqb-true}
use Rattle.forms.specs.declared.form.Form.{Form}
use Rattle.forms.specs.declared.form.Form.TheVariants.{Sporadic, Angular, Mode, Link, End}
use Rattle.forms.specs.declared.keyword.Keyword.{Keyword}
use Rattle.forms.specs.declared.keyword.Keyword.TheVariants.{Sporadic as sporadic, Angular as angular, Mode as mode, Link as link, End as end}
use Rattle.forms.specs.Format.{keyword, numbers, field, fields, spell, Small, Sound}
use Rattle.forms.specs.Numbers.{number_of}
use Rattle.forms.specs.Keywords.{reads_from, is_word, key_of, word_of}
use Rattle.forms.specs.Places.{At, rest_of, forward, next_line, next_is}
use Rattle.forms.specs.Words.{word_len, by_number, word_at, token_at, past_word}
use Rattle.forms.specs.Lines.{Step, done, failed, after, number_from, space_of, line_end_of, number_at, field_of, Makes, fields_of, body_of, by_key, form_from, form_of}
use Rattle.forms.proofs.Numerals.{number_only}
use Rattle.forms.proofs.ReadBack.{spell_on, Numbers, listed, made}

-- A step is not both.
pub apart : {A : Type 0} {x : A} {s t : At} → ◌≡◌ {A = Step A} (failed t) (done x s) → ⊥
apart e = grind arith

pub same_done : {A : Type 0} (x y : A) (s t : At) → ◌≡◌ {A = Step A} (done x s) (done y t) → (x ≡ y) × (s ≡ t)
same_done x y s t e = (grind arith, grind arith)

after_done : {A B : Type 0} (o : Step A) (k : A → At → Step B) (y : B) (u : At) → after o k ≡ done y u → (x : A) × (t : At) × (o ≡ done x t) × (k x t ≡ done y u)
after_done (done x t) k y u e = (x, t, refl, e)
after_done (failed t) k y u e = absurd (apart e)

-- A byte that was taken stood there.
byte_only : {A : Type 0} (b : ℕ) (s t u : At) (x y : A) → rest_of u ≡ rest_of (forward 1 s) → cond (next_is b s) (done x u) (failed s) ≡ done y t → rest_of s ≡ b ∷ rest_of t
byte_only b s t u x y same e = go (next_is b s) refl e
  where
    go : (c : Bool) → next_is b s ≡ c → cond c (done x u) (failed s) ≡ done y t → rest_of s ≡ b ∷ rest_of t
    go true h g =
        let p = and_parts _ _ h in
        drop_more s.text s.pos 0 (ltb-true _ _ p.0) ∙ (λ i. eqb-true _ _ p.1 i ∷ (sym same ∙ ap rest_of (same_done x y u t g).1) i)
    go false h g = absurd (apart g)

space_only : (s t : At) (x : Unit {0}) → space_of s ≡ done x t → rest_of s ≡ 32 ∷ rest_of t
space_only s t x e = byte_only 32 s t (forward 1 s) tt x refl e

line_end_only : (s t : At) (x : Unit {0}) → line_end_of s ≡ done x t → rest_of s ≡ 10 ∷ rest_of t
line_end_only s t x e = byte_only 10 s t (next_line (forward 1 s)) tt x refl e

-- A word and what stands after it.
word_rest : (s : At) → rest_of s ≡ word_at s ++ rest_of (forward (word_len (rest_of s)) s)
word_rest s =
    let n = word_len (rest_of s) in
    sym (take-append-drop n (rest_of s)) ∙ ap (λ l. word_at s ++ l) (drop-drop n s.pos s.text)

number_from_lem : (p : ℕ) (bs : List ℕ) (o : Option ℕ) (s t : At) (n : ℕ) → number_from (by_number p bs o) s ≡ done n t → (o ≡ Some n) × (s ≡ t)
number_from_lem p bs None s t n e = absurd (apart e)
number_from_lem p bs (Some v) s t n e = let q = same_done _ _ _ _ e in (ap Some q.0, q.1)

number_at_lem : (s t : At) (n : ℕ) → number_at s ≡ done n t → (rest_of s ≡ decimal n ++ rest_of t) × (n < 1000000)
unfolding token_at past_word
number_at_lem s t n e =
    let p = number_from_lem s.pos (word_at s) (number_of (word_at s)) (forward (word_len (rest_of s)) s) t n e in
    let q = number_only (word_at s) n p.0 in
    (word_rest s ∙ (λ i. q.0 i ++ rest_of (p.1 i)), q.1)

field_only : (s t : At) (n : ℕ) → field_of s ≡ done n t → (rest_of s ≡ field n ++ rest_of t) × (n < 1000000)
field_only s t n e =
    let a = after_done (space_of s) (λ _ u. number_at u) n t e in
    let b = number_at_lem a.1 t n a.3 in
    (space_only s a.1 a.0 a.2 ∙ ap (λ l. 32 ∷ l) b.0, b.1)

-- The numbers that were read, and what stood there.
pub record Took (n : ℕ) (make : Makes n) (s t : At) (f : Form) : Type 0 where
  pub values : Numbers n
  pub makes : made n make values ≡ f
  pub bytes : rest_of s ≡ fields (listed n values) ++ (10 ∷ rest_of t)
  pub small : Small (listed n values)

fields_only : (n : ℕ) (make : Makes n) (s t : At) (f : Form) → fields_of n make s ≡ done f t → Took n make s t f
fields_only zero make s t f e =
    let a = after_done (line_end_of s) (λ _ u. done make u) f t e in
    let q = same_done make f a.1 t a.3 in
    record { values = tt; makes = q.0; bytes = line_end_only s a.1 a.0 a.2 ∙ ap (λ u. 10 ∷ rest_of u) q.1; small = tt }
fields_only (suc n) make s t f e =
    let a = after_done (field_of s) (λ v u. fields_of n (make v) u) f t e in
    let h = field_only s a.1 a.0 a.2 in
    let r = fields_only n (make a.0) a.1 t f a.3 in
    let l = fields (listed n r.values) in
    record {
      values = (a.0, r.values);
      makes = r.makes;
      bytes = h.0 ∙ ap (λ m. field a.0 ++ m) r.bytes ∙ sym (append_assoc (field a.0) l (10 ∷ rest_of t));
      small = (h.1, r.small);
    }

-- After the key stood the rest of f's spelling.
pub record Follows (key : List ℕ) (s t : At) (f : Form) : Type 0 where
  pub bytes : rest_of s ≡ fields (numbers f) ++ (10 ∷ rest_of t)
  pub sound : Sound f
  pub keyed : key ≡ keyword f

follows : (n : ℕ) (make : Makes n) (key : List ℕ) → ((xs : Numbers n) → numbers (made n make xs) ≡ listed n xs) → ((xs : Numbers n) → key ≡ keyword (made n make xs)) → (s t : At) (f : Form) → fields_of n make s ≡ done f t → Follows key s t f
follows n make key lists keys s t f e =
    let r = fields_only n make s t f e in
    let l = sym (lists r.values) ∙ ap numbers r.makes in
    record {
      bytes = r.bytes ∙ ap (λ ns. fields ns ++ (10 ∷ rest_of t)) l;
      sound = subst Small l r.small;
      keyed = keys r.values ∙ ap keyword r.makes;
    }

body_only : (k : Keyword) (s t : At) (f : Form) → body_of k s ≡ done f t → Follows (word_of k) s t f
body_only sporadic s t f e = follows 4 Sporadic (word_of sporadic) (λ _. refl) (λ _. refl) s t f e
body_only angular s t f e = follows 1 Angular (word_of angular) (λ _. refl) (λ _. refl) s t f e
body_only mode s t f e = follows 2 Mode (word_of mode) (λ _. refl) (λ _. refl) s t f e
body_only link s t f e = follows 3 Link (word_of link) (λ _. refl) (λ _. refl) s t f e
body_only end s t f e = follows 2 End (word_of end) (λ _. refl) (λ _. refl) s t f e

reads_at : (bs : List ℕ) (i : ℕ) (w : List ℕ) → reads_from bs i w ≡ true → HasBytesAt bs i w
reads_at bs i [] e = tt
reads_at bs i (c ∷ cs) e = let p = and_parts _ _ e in (eqb-true _ _ p.0, reads_at bs (suc i) cs p.1)

is_word_only : (bs w : List ℕ) → is_word bs w ≡ true → bs ≡ w
is_word_only bs w e = let p = and_parts _ _ e in text_from_reads bs w (eqb-true _ _ p.0) (reads_at bs 0 w p.1)

by_test : (bs w : List ℕ) (k j : Keyword) (o : Option Keyword) → w ≡ word_of j → (o ≡ Some k → bs ≡ word_of k) → cond (is_word bs w) (Some j) o ≡ Some k → bs ≡ word_of k
by_test bs w k j o same other e = go (is_word bs w) refl e
  where
    go : (b : Bool) → is_word bs w ≡ b → cond b (Some j) o ≡ Some k → bs ≡ word_of k
    go true h g = let jk : j ≡ k = grind arith in is_word_only bs w h ∙ same ∙ ap word_of jk
    go false h g = other g

key_only : (bs : List ℕ) (k : Keyword) → key_of bs ≡ Some k → bs ≡ word_of k
key_only bs k =
    by_test bs (codes "sporadic") k sporadic _ refl
    (by_test bs (codes "angular") k angular _ refl
    (by_test bs (codes "mode") k mode _ refl
    (by_test bs (codes "link") k link _ refl
    (by_test bs (codes "end") k end _ refl (λ e. absurd (grind arith))))))

by_key_only : (o : Option Keyword) (s t : At) (f : Form) → by_key o s ≡ done f t → (k : Keyword) × (o ≡ Some k) × (body_of k s ≡ done f t)
by_key_only None s t f e = absurd (apart e)
by_key_only (Some k) s t f e = (k, refl, e)

form_from_lem : (p : ℕ) (bs : List ℕ) (o : Option ℕ) (s t : At) (f : Form) → form_from (by_number p bs o) s ≡ done f t → by_key (key_of bs) s ≡ done f t
form_from_lem p bs None s t f e = e
form_from_lem p bs (Some v) s t f e = absurd (apart e)

-- A form that is read is spelled there, with numbers of at most six digits.
pub form_only : (s t : At) (f : Form) → form_of s ≡ done f t → (rest_of s ≡ spell f ++ rest_of t) × Sound f
unfolding form_of token_at past_word
form_only s t f e =
    let u = forward (word_len (rest_of s)) s in
    let a = by_key_only (key_of (word_at s)) u t f (form_from_lem s.pos (word_at s) (number_of (word_at s)) u t f e) in
    let b = body_only a.0 u t f a.2 in
    (word_rest s ∙ (λ i. (key_only (word_at s) a.0 a.1 ∙ b.keyed) i ++ b.bytes i) ∙ sym (spell_on f (rest_of t)), b.sound)
