use Rattle.std.proofs.Common.{◌≡◌, ◌-◌, length}
use Rattle.std.specs.Prelude.{option_map}
use Rattle.calls.specs.Lists.{numbers_from, numbers_in}
use Rattle.calls.proofs.words.numbers_of.Given as goal

abbrev pub invariant-loop-left : goal.invariant-loop-left
invariant-loop-left l =
    numbers_from (5 - length l.numbers.items) l.numbers.items (option_map (λ w. w.now) l.left) ≡ numbers_in (option_map (λ w. w.now) l.words)

abbrev pub decreases-loop-left : goal.decreases-loop-left
decreases-loop-left l = 5 - length l.numbers.items
