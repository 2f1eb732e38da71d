-- The worked examples, by computation. Assumes nothing.
use Rattle.std.proofs.Common.{refl}
use Rattle.angular.specs.Best.{best, most_of}
use Rattle.response.specs.Bounds.{bound_of}
use Rattle.response.specs.Verdicts.{over_in, first_over, verdict_of, bound_cells}
use Rattle.run.specs.Ticks.{after_ticks}
use Rattle.cases.specs.Examples.{Worked}

pub all_worked : Worked
unfolding best most_of bound_of over_in first_over verdict_of bound_cells after_ticks
all_worked = refl
