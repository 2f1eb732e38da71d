-- What is read is what the format says, and the format leaves no choice. Assumes nothing.
use Rattle.std.proofs.Common.{◌≡◌, ℕ, ◌<◌, List, ◌++◌, length, Some, None, Option, Ok, Err, Result, sym, refl, ap, ◌∙◌, arith, MatchResult}
use Rattle.std.proofs.lemmas.List.{append_cancel_left}
use Rattle.forms.specs.declared.form.Form.{Form}
use Rattle.forms.specs.declared.form.NoForm.{NoForm}
use Rattle.forms.specs.declared.keyword.Keyword.{Keyword}
use Rattle.forms.specs.Format.{spell, Sound}
use Rattle.forms.specs.Keywords.{or_formless}
use Rattle.forms.specs.Places.{At, start}
use Rattle.forms.specs.Lines.{out, form_of}
use Rattle.forms.specs.Reads.{Spelled, Formless}
use Rattle.forms.proofs.ReadBack.{past_line, form_read, spell_long}
use Rattle.forms.proofs.Canonical.{apart, same_done, form_only}

pub reads_form : (s : At) (r : Result Form NoForm) (t : At) → out r t ≡ form_of s → MatchResult r (λ f. Spelled s f t) (λ _. Formless s)
reads_form s (Ok f) t e =
    let a = form_only s t f (sym e) in
    let p = (same_done f f t (past_line f s) (e ∙ form_read f a.1 s _ a.0)).1 in
    record { sound = a.1; bytes = a.0; moved = ap (λ u. u.pos) p; counted = ap (λ u. u.line) p; same = ap (λ u. u.text) p }
reads_form s (Err x) t e = λ f ys h g. apart (e ∙ form_read f h s ys g)

-- A spelling tells its form and where it ends.
pub spell_one : (f g : Form) (xs ys : List ℕ) → Sound f → Sound g → spell f ++ xs ≡ spell g ++ ys → (f ≡ g) × (xs ≡ ys)
spell_one f g xs ys hf hg e =
    let s = start (spell f ++ xs) in
    let p = same_done f g (past_line f s) (past_line g s) (sym (form_read f hf s xs refl) ∙ form_read g hg s ys e) in
    (p.0, append_cancel_left (spell f) xs ys (e ∙ ap (λ h. spell h ++ ys) (sym p.0)))

-- A spelling has a byte.
pub spell_some : (f : Form) → 0 < length (spell f)
spell_some f = omega (arith, spell_long f)

-- A keyword was read where the bytes spell one, and else there is none.
pub key_found : (o : Option Keyword) (k : Keyword) → Ok k ≡ or_formless o → o ≡ Some k
key_found None k e = absurd (grind arith)
key_found (Some j) k e = let same : k ≡ j = cc in ap Some (sym same)

pub key_lacking : (o : Option Keyword) (n : NoForm) → Err n ≡ or_formless o → o ≡ None
key_lacking None n e = refl
key_lacking (Some j) n e = absurd (grind arith)
