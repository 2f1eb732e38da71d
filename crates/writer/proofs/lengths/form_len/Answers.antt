use Rattle.std.proofs.Common.{rules}
use Rattle.forms.specs.Format.{spell}
use Rattle.writer.proofs.lengths.form_len.Goals as goal

pub returns-clause-is : goal.returns-clause-is
unfolding spell
returns-clause-is c = search rules
