-- The words of a line. Assumes nothing.
use Rattle.std.specs.Prelude.{ℕ, ◌+◌, Bool, cond, not, ◌||◌, List, length, take, drop, Some, None, Option, ◌==◌, nat_lt}
use Rattle.forms.specs.Numbers.{digits_up_to}
use Rattle.std.specs.List.{prefix_len}

-- A byte other than e.
abbrev pub other : ℕ → ℕ → Bool
other e b = not (b == e)

-- How many bytes stand in front of the first e.
unfoldable pub prefix_length : List ℕ → ℕ → ℕ
prefix_length bs e = prefix_len (other e) bs

-- What stands in front of the first e; all of it where e does not come.
abbrev pub front : List ℕ → ℕ → List ℕ
front bs e = take (prefix_length bs e) bs

-- What follows the first e, if it comes.
abbrev pub behind : List ℕ → ℕ → Option (List ℕ)
behind bs e = cond (nat_lt (prefix_length bs e) (length bs)) (Some (drop (prefix_length bs e + 1) bs)) None

-- The number of 32 bits that a word spells: it has one to ten digits, and nothing else.
unfoldable pub number_32 : List ℕ → Option ℕ
number_32 bs = cond (length bs == 0 || nat_lt 10 (length bs)) None (digits_up_to 4294967295 0 bs)
