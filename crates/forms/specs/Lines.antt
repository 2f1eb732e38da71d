-- What reading a line gives, step by step. Assumes nothing.
use Rattle.std.specs.Prelude.{ℕ, zero, suc, cond, List, [], ◌∷◌, Some, None, Ok, Err, Option, Result}
use Rattle.forms.specs.declared.form.Form.{Form}
use Rattle.forms.specs.declared.form.Form.TheVariants.{Sporadic, Angular, Mode, Link, End}
use Rattle.forms.specs.declared.form.NoForm.{NoForm}
use Rattle.forms.specs.declared.keyword.Keyword.{Keyword}
use Rattle.forms.specs.declared.keyword.Keyword.TheVariants.{Sporadic as sporadic, Angular as angular, Mode as mode, Link as link, End as end}
use Rattle.forms.specs.Keywords.{key_of}
use Rattle.forms.specs.Places.{At, forward, next_line, next_is}
use Rattle.forms.specs.Words.{Seen, word, number, token_at, past_word}

-- What was read and the place after it; or that it is not there, and the place where that was seen.
pub data Step (A : Type 0) : Type 0 where
  done : A → At → Step A
  failed : At → Step A

-- A step from what a function answers and the place where the reader then stands.
abbrev pub out : {A : Type 0} → Result A NoForm → At → Step A
out (Ok x) s = done x s
out (Err e) s = failed s

-- One step, and if it is done the next one.
abbrev pub after : {A B : Type 0} → Step A → (A → At → Step B) → Step B
after (done x s) k = k x s
after (failed s) k = failed s

-- One byte b.
abbrev pub byte_of : ℕ → At → Step (Unit {0})
byte_of b s = cond (next_is b s) (done tt (forward 1 s)) (failed s)

-- One space.
abbrev pub space_of : At → Step (Unit {0})
space_of s = byte_of 32 s

-- The line feed that ends a line.
abbrev pub line_end_of : At → Step (Unit {0})
line_end_of s = cond (next_is 10 s) (done tt (next_line (forward 1 s))) (failed s)

-- A token is taken where it is a number.
abbrev pub number_from : Seen → At → Step ℕ
number_from (word p bs) s = failed s
number_from (number p bs v) s = done v s

-- A number.
abbrev pub number_at : At → Step ℕ
number_at s = number_from (token_at s) (past_word s)

-- A space and a number.
abbrev pub field_of : At → Step ℕ
field_of s = after (space_of s) (λ _ t. number_at t)

-- n numbers, each after a space, and the end of the line.
abbrev pub numbers_of : ℕ → At → Step (List ℕ)
numbers_of zero s = after (line_end_of s) (λ _ t. done [] t)
numbers_of (suc n) s = after (field_of s) (λ v t. after (numbers_of n t) (λ vs u. done (v ∷ vs) u))

-- What takes n numbers and makes a form of them.
abbrev pub Makes : ℕ → Type 0
Makes zero = Form
Makes (suc n) = ℕ → Makes n

-- n numbers, each after a space, and the end of the line: the form that they make.
abbrev pub fields_of : (n : ℕ) → Makes n → At → Step Form
fields_of zero f s = after (line_end_of s) (λ _ t. done f t)
fields_of (suc n) make s = after (field_of s) (λ v t. fields_of n (make v) t)

-- What follows `sporadic`: four numbers.
abbrev pub sporadic_of : At → Step Form
sporadic_of s = fields_of 4 Sporadic s

-- What follows `angular`: one.
abbrev pub angular_of : At → Step Form
angular_of s = fields_of 1 Angular s

-- What follows `mode`: two.
abbrev pub mode_of : At → Step Form
mode_of s = fields_of 2 Mode s

-- What follows `link`: three.
abbrev pub link_of : At → Step Form
link_of s = fields_of 3 Link s

-- What follows `end`: two.
abbrev pub end_of : At → Step Form
end_of s = fields_of 2 End s

-- What follows a keyword.
abbrev pub body_of : Keyword → At → Step Form
body_of sporadic s = sporadic_of s
body_of angular s = angular_of s
body_of mode s = mode_of s
body_of link s = link_of s
body_of end s = end_of s

-- Without a keyword there is no form.
abbrev pub by_key : Option Keyword → At → Step Form
by_key None s = failed s
by_key (Some k) s = body_of k s

-- The form that a first word begins.
abbrev pub form_from : Seen → At → Step Form
form_from (word p bs) s = by_key (key_of bs) s
form_from (number p bs v) s = failed s

-- The form that begins at a place: a keyword and what follows it.
unfoldable pub form_of : At → Step Form
form_of s = form_from (token_at s) (past_word s)

-- A step after which, if it failed, the place is s again.
abbrev pub or_back : At → Step Form → Step Form
or_back s (done f t) = done f t
or_back s (failed t) = failed s

-- Reading the line that begins at a place.
abbrev pub line_of : At → Step Form
line_of s = or_back s (form_of s)
