-- What a list of calls says, line by line. Assumes nothing.
use Rattle.std.specs.Prelude.{ℕ, zero, suc, ◌+◌, Bool, true, cond, List, [], ◌∷◌, ◌++◌, length, take, drop, Some, None, Option, nat_lt, ◌==◌, unwrap_or}
use Rattle.std.specs.Option.{option_and_then, option_or}
use Rattle.calls.specs.Names.{or_else, length_named, memory_named}
use Rattle.calls.specs.Kinds.{edit_named, drafting_named, running_named, question_named, other_named}
use Rattle.calls.specs.Words.{front, behind, number_32}
use Rattle.calls.specs.declared.call.Call.{Call}
use Rattle.calls.specs.declared.call.Call.TheVariants as call
use Rattle.calls.specs.declared.call.Entry.{Entry}
use Rattle.calls.specs.declared.call.Entry.TheVariants as entry
use Rattle.calls.specs.declared.call.Length.{Length}
use Rattle.calls.specs.declared.call.Memory.{Memory}
use Rattle.calls.specs.declared.list.Calls.{Calls}
use Rattle.calls.specs.declared.list.Step.{Step}

-- The numbers that the words of a line spell, behind those that were seen; nothing where a word spells none, or where
-- more than n words are left.
abbrev pub numbers_from : ℕ → List ℕ → Option (List ℕ) → Option (List ℕ)
numbers_from zero seen None = Some seen
numbers_from zero seen (Some text) = None
numbers_from (suc n) seen None = Some seen
numbers_from (suc n) seen (Some text) = option_and_then (λ v. numbers_from n (seen ++ (v ∷ [])) (behind text 32)) (number_32 (front text 32))

-- At most five numbers.
abbrev pub numbers_in : Option (List ℕ) → Option (List ℕ)
numbers_in words = numbers_from 5 [] words

-- The call of a name and its numbers, of whichever kind.
abbrev pub call_named : List ℕ → List ℕ → Option Call
call_named w numbers =
    or_else call.Edit (edit_named w numbers)
    (or_else call.Drafting (drafting_named w numbers)
    (or_else call.Running (running_named w numbers)
    (or_else call.Ask (question_named w numbers)
    (other_named w numbers))))

-- A call that lends memory says how much of which.
abbrev pub lent_by : Option Length → Option Memory → Option Call
lent_by None m = None
lent_by (Some l) None = None
lent_by (Some l) (Some m) = Some (call.Lend m l)

-- A call that lends: its name says how much, and the words behind it of which memory.
abbrev pub lending_call : List ℕ → Option (List ℕ) → Option Call
lending_call w words = lent_by (length_named w) (option_and_then memory_named words)

-- The call that a line is: its first word is the name, and the words behind it are what is lent, or the numbers.
abbrev pub call_of : List ℕ → Option Call
call_of line = option_or (lending_call (front line 32) (behind line 32)) (option_and_then (call_named (front line 32)) (numbers_in (behind line 32)))

-- A line is passed over that is empty or begins with `#`.
abbrev pub remark : List ℕ → Bool
remark [] = true
remark (b ∷ bs) = b == 35

-- A line is a call, or none.
abbrev pub entry_by : Option Call → Entry
entry_by None = entry.Unknown
entry_by (Some c) = entry.Call c

-- What a line is: one that is passed over, a call, or none.
unfoldable pub entry_of : List ℕ → Entry
entry_of line = cond (remark line) entry.Remark (entry_by (call_of line))

-- What a line is, the text that its call brings, and the rest of the list.
pub record Read : Type 0 where
  pub entry : Entry
  pub text : List ℕ
  pub rest : List ℕ

-- What a step of a list has, as a plain value.
abbrev pub read : Step → Read
read s = record { entry = s.entry; text = s.text.now; rest = s.rest.now }

-- A line that brings no text.
abbrev pub alone : Entry → List ℕ → Read
alone e rest = record { entry = e; text = []; rest = rest }

-- A load brings a text of so many bytes, which a byte more has to follow; else the line is no call.
abbrev pub load_of : ℕ → List ℕ → Read
load_of n rest = cond (nat_lt n (length rest)) (record { entry = entry.Call (call.Load n); text = take n rest; rest = drop (n + 1) rest }) (alone entry.Unknown rest)

-- The length of the text that a call brings, if the line is one that brings one.
abbrev pub load_length : Entry → Option ℕ
load_length (entry.Call (call.Load n)) = Some n
load_length e = None

-- A line with the text that it brings, if it is to bring one of so many bytes.
abbrev pub opened : Option ℕ → Entry → List ℕ → Read
opened None e rest = alone e rest
opened (Some n) e rest = load_of n rest

-- The first line of a list, without its line feed, is passed over, a call or none; the rest is what follows the line, and the text that it brings.
abbrev pub first_read : List ℕ → Read
first_read list = opened (load_length (entry_of (front list 10))) (entry_of (front list 10)) (unwrap_or (behind list 10) [])

-- The calls of a list of up to n bytes, in their order, with the lines between them that are none.
abbrev pub calls_within : ℕ → List ℕ → List Read
calls_within zero bs = []
calls_within (suc n) [] = []
calls_within (suc n) (b ∷ bs) = first_read (b ∷ bs) ∷ calls_within n (first_read (b ∷ bs)).rest

-- The calls of a list, in their order, with the lines between them that are none.
unfoldable pub calls_of : List ℕ → List Read
calls_of bs = calls_within (length bs) bs

-- The calls that are still to be read.
abbrev pub calls_left : Calls → List Read
calls_left c = calls_of c.rest.now
