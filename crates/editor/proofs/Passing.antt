-- Checks that pass. Assumes nothing.
use Rattle.std.proofs.Common.{◌≡◌, Ok, Err}
use Rattle.line.specs.Answers.{Answer, and_then}

-- Where two checks pass, one after the other, the second one does.
pub second : (a b : Answer) → and_then a b ≡ Ok tt → b ≡ Ok tt
second (Ok u) b e = e
second (Err e) b h = absurd (cc (h))
