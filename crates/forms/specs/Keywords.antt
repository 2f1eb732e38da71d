-- The words that begin a line. Assumes nothing.
use Rattle.std.specs.Prelude.{ℕ, suc, Bool, true, cond, ◌&&◌, List, [], ◌∷◌, length, Some, None, Ok, Err, codes, Option, Result, ◌==◌, slice_index}
use Rattle.forms.specs.declared.form.NoForm.{NoForm}
use Rattle.forms.specs.declared.keyword.Keyword.{Keyword}
use Rattle.forms.specs.declared.keyword.Keyword.TheVariants.{Sporadic, Angular, Mode, Link, End}

-- From its byte i on, bs has the bytes of w.
abbrev pub reads_from : List ℕ → ℕ → List ℕ → Bool
reads_from bs i [] = true
reads_from bs i (c ∷ cs) = slice_index bs i == c && reads_from bs (suc i) cs

-- bs is the word w.
abbrev pub is_word : List ℕ → List ℕ → Bool
is_word bs w = length bs == length w && reads_from bs 0 w

-- The keyword that bs spells.
abbrev pub key_of : List ℕ → Option Keyword
key_of bs =
    cond (is_word bs (codes "sporadic")) (Some Sporadic)
    (cond (is_word bs (codes "angular")) (Some Angular)
    (cond (is_word bs (codes "mode")) (Some Mode)
    (cond (is_word bs (codes "link")) (Some Link)
    (cond (is_word bs (codes "end")) (Some End) None))))

-- A keyword that is there, or that no form begins so.
abbrev pub or_formless : Option Keyword → Result Keyword NoForm
or_formless None = Err (record {})
or_formless (Some k) = Ok k

-- The word of a keyword.
abbrev pub word_of : Keyword → List ℕ
word_of Sporadic = codes "sporadic"
word_of Angular = codes "angular"
word_of Mode = codes "mode"
word_of Link = codes "link"
word_of End = codes "end"
