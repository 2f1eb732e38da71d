use Rattle.std.proofs.Common.{rules}
use Rattle.forms.specs.Format.{spell}
use Rattle.writer.proofs.writes.put_form.Goals as goal

pub write_words-requires : goal.write_words-requires
unfolding spell
write_words-requires c = search rules

pub returns : goal.returns
unfolding spell
returns c = search rules
