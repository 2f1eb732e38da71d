use Rattle.std.proofs.Common.{rules, arith}
use Rattle.writer.proofs.Writing.{digits_by_log}
use Rattle.writer.proofs.lengths.digit_count.Goals as goal

pub returns-clause-is : goal.returns-clause-is
returns-clause-is c =
    let l = c.checked_ilog10.ensures in
    digits_by_log c.args.n c.map_or.result c.checked_ilog10.result (omega (arith, c.ranges.n.fits)) l.none l.power_le l.next_power_gt (search rules)
