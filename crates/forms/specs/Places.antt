-- Places in a text. Assumes nothing.
use Rattle.std.specs.Prelude.{ℕ, ◌+◌, Bool, ◌&&◌, List, length, drop, ◌==◌, nat_lt, slice_index}

-- A place in a text: the text, the line, counted from 1, and the byte to read next.
pub record At : Type 0 where
  pub text : List ℕ
  pub line : ℕ
  pub pos : ℕ

-- The front of a text.
abbrev pub start : List ℕ → At
start text = record { text = text; line = 1; pos = 0 }

-- The bytes from a place on.
abbrev pub rest_of : At → List ℕ
rest_of s = drop s.pos s.text

-- The place n bytes further on the same line.
abbrev pub forward : ℕ → At → At
forward n s = record { text = s.text; line = s.line; pos = s.pos + n }

-- The same byte, on the next line.
abbrev pub next_line : At → At
next_line s = record { text = s.text; line = s.line + 1; pos = s.pos }

-- The byte that stands at a place is b.
abbrev pub next_is : ℕ → At → Bool
next_is b s = nat_lt s.pos (length s.text) && slice_index s.text s.pos == b
