-- How a number is read: one to six decimal digits, with no needless zero in front. Assumes nothing.
use Rattle.std.specs.Prelude.{ℕ, ◌+◌, ◌-◌, ◌*◌, Bool, cond, not, ◌&&◌, ◌||◌, List, [], ◌∷◌, length, Some, None, Option, ◌==◌, nat_le, nat_lt, slice_index}
use Rattle.std.specs.Char.{is_ascii_digit}

-- What the digits of cs make of the number n in front of them, and nothing where one is no digit.
abbrev pub digits_from : ℕ → List ℕ → Option ℕ
digits_from n [] = Some n
digits_from n (c ∷ cs) = cond (is_ascii_digit c) (digits_from (n * 10 + (c - 48)) cs) None

-- What the digits of cs make of the number n in front of them; nothing where one is no digit, or the number passes the limit.
abbrev pub digits_up_to : ℕ → ℕ → List ℕ → Option ℕ
digits_up_to limit n [] = Some n
digits_up_to limit n (c ∷ cs) = cond (is_ascii_digit c && nat_le (n * 10 + (c - 48)) limit) (digits_up_to limit (n * 10 + (c - 48)) cs) None

-- One to six bytes, and a zero in front only alone.
abbrev pub plain : List ℕ → Bool
plain bs = nat_lt 0 (length bs) && nat_le (length bs) 6 && (not (slice_index bs 0 == 48) || length bs == 1)

-- The number that bs spells.
unfoldable pub number_of : List ℕ → Option ℕ
number_of bs = cond (plain bs) (digits_from 0 bs) None
