use Rattle.std.proofs.Common.{arith}
use Rattle.table.specs.Tables.{items}
use Rattle.save.proofs.Rights.{table_together, table_rights}
use Rattle.save.proofs.Spelling.{last_within}
use Rattle.save.proofs.Short.{lines_short}
use Rattle.save.proofs.measure.trailer.Goals as goal

pub overflow_cast-result-2 : goal.overflow_cast-result-2
overflow_cast-result-2 c =
    let t = c.args.table.now in
    omega (arith, c.requires, last_within (items t), lines_short (items t) (table_together t) (table_rights t))
