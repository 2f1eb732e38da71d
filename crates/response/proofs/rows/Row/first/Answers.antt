use Rattle.std.proofs.Common.{refl, arith}
use Rattle.response.proofs.Adding.{sums_none}
use Rattle.response.proofs.rows.Row.first.Goals as goal

pub invariant_of-result : goal.invariant_of-result
invariant_of-result g c = record { laws = g.met.L.Line.keeps c.args.line.now c.requires; inside = omega arith; row = sums_none (g.L.Line.meaning c.args.line.now) _ refl }
