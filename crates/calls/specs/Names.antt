-- The names of the calls. Assumes nothing.
use Rattle.std.specs.Prelude.{ℕ, cond, List, Some, None, codes, Option}
use Rattle.forms.specs.Keywords.{is_word}
use Rattle.calls.specs.declared.call.Call.{Call}
use Rattle.calls.specs.declared.call.Length.{Length}
use Rattle.calls.specs.declared.call.Length.TheVariants.{Short, Fit, Long}
use Rattle.calls.specs.declared.call.Memory.{Memory}
use Rattle.calls.specs.declared.call.Memory.TheVariants as memory

-- The value where the word is that name, and else what follows.
abbrev pub named : {X : Type 0} → List ℕ → List ℕ → X → Option X → Option X
named w name x else = cond (is_word w name) (Some x) else

-- The call that a name stands for, if it stands for one of its kind, and else what follows.
abbrev pub or_else : {X : Type 0} → (X → Call) → Option X → Option Call → Option Call
or_else f (Some x) else = Some (f x)
or_else f None else = else

-- How much is lent.
abbrev pub length_named : List ℕ → Option Length
length_named w = named w (codes "short") Short (named w (codes "fit") Fit (named w (codes "long") Long None))

-- What is lent.
abbrev pub memory_named : List ℕ → Option Memory
memory_named w =
    named w (codes "sheet") memory.Sheet (named w (codes "list") memory.List (named w (codes "output") memory.Output None))
