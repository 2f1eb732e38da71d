-- What reading a line means, in the words of the format. Assumes nothing.
use Rattle.std.specs.Prelude.{◌≡◌, ℕ, ◌+◌, List, ◌++◌, length, Ok, Err, Result, ◌≢◌}
use Rattle.forms.specs.declared.form.Form.{Form}
use Rattle.forms.specs.declared.form.NoForm.{NoForm}
use Rattle.forms.specs.Format.{spell, Sound}
use Rattle.forms.specs.Places.{At, rest_of}

-- The spelling of f stands at s, and t is the place after it, on the next line of the same text.
pub record Spelled (s : At) (f : Form) (t : At) : Type 0 where
  pub sound : Sound f
  pub bytes : rest_of s ≡ spell f ++ rest_of t
  pub moved : t.pos ≡ s.pos + length (spell f)
  pub counted : t.line ≡ s.line + 1
  pub same : t.text ≡ s.text

-- At s stands the spelling of no form.
abbrev pub Formless : At → Type 0
Formless s = (f : Form) (ys : List ℕ) → Sound f → rest_of s ≢ spell f ++ ys

-- Reading the line at s answers the form whose spelling stands there and leaves the place after it; or
-- there is no such form, and the place stays.
abbrev pub Reads : At → Result Form NoForm → At → Type 0
Reads s (Ok f) t = Spelled s f t
Reads s (Err e) t = Formless s × (t ≡ s)
