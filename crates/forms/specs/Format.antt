-- The format of a table's text: each form of a line has one spelling. Assumes nothing.
use Rattle.std.specs.Prelude.{ℕ, ◌<◌, List, [], ◌∷◌, ◌++◌, codes, decimal}
use Rattle.forms.specs.declared.form.Form.{Form}
use Rattle.forms.specs.declared.form.Form.TheVariants.{Sporadic, Angular, Mode, Link, End}

-- The first word of a form.
abbrev pub keyword : Form → List ℕ
keyword (Sporadic n c t d) = codes "sporadic"
keyword (Angular n) = codes "angular"
keyword (Mode c d) = codes "mode"
keyword (Link a b p) = codes "link"
keyword (End k z) = codes "end"

-- Its numbers, in the order in which they stand.
abbrev pub numbers : Form → List ℕ
numbers (Sporadic n c t d) = n ∷ c ∷ t ∷ d ∷ []
numbers (Angular n) = n ∷ []
numbers (Mode c d) = c ∷ d ∷ []
numbers (Link a b p) = a ∷ b ∷ p ∷ []
numbers (End k z) = k ∷ z ∷ []

-- A space and a number in decimal digits.
abbrev pub field : ℕ → List ℕ
field n = 32 ∷ decimal n

-- One for each number.
abbrev pub fields : List ℕ → List ℕ
fields [] = []
fields (n ∷ ns) = field n ++ fields ns

-- The bytes of a line: its keyword, a space and digits for each number, and the line feed.
unfoldable pub spell : Form → List ℕ
spell f = keyword f ++ (fields (numbers f) ++ (10 ∷ []))

-- Numbers of at most six digits.
abbrev pub Small : List ℕ → Type 0
Small [] = Unit {0}
Small (n ∷ ns) = (n < 1000000) × Small ns

-- A form that has a line: each of its numbers is below a million.
abbrev pub Sound : Form → Type 0
Sound f = Small (numbers f)
