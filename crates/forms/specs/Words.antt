-- The words of a text. Assumes nothing.
use Rattle.std.specs.Prelude.{ℕ, Bool, not, ◌||◌, List, take, Some, None, Option, ◌==◌}
use Rattle.std.specs.List.{prefix_len}
use Rattle.forms.specs.Numbers.{number_of}
use Rattle.forms.specs.Places.{At, rest_of, forward}

-- A separator: a space or a line feed.
abbrev pub separates : ℕ → Bool
separates b = b == 32 || b == 10

-- Neither a space nor a line feed.
abbrev pub in_word : ℕ → Bool
in_word b = not (separates b)

-- How many bytes stand in front of the first separator.
unfoldable pub word_len : List ℕ → ℕ
word_len bs = prefix_len in_word bs

-- What a word shows: its place and bytes, and of a number its value.
pub data Seen : Type 0 where
  word : ℕ → List ℕ → Seen
  number : ℕ → List ℕ → ℕ → Seen

-- The bytes from a place up to the next separator.
abbrev pub word_at : At → List ℕ
word_at s = take (word_len (rest_of s)) (rest_of s)

-- The word bs at the byte p, by the number that it spells, if any.
abbrev pub by_number : ℕ → List ℕ → Option ℕ → Seen
by_number p bs None = word p bs
by_number p bs (Some v) = number p bs v

-- The word that begins at a place: a number where its bytes spell one.
unfoldable pub token_at : At → Seen
token_at s = by_number s.pos (word_at s) (number_of (word_at s))

-- The place after that word.
unfoldable pub past_word : At → At
past_word s = forward (word_len (rest_of s)) s
