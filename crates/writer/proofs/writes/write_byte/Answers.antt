use Rattle.std.proofs.Common.{refl}
use Rattle.writer.proofs.Writing.{wrote_one}
use Rattle.writer.proofs.writes.write_byte.Goals as goal

pub returns : goal.returns
returns c = wrote_one _ _ _ _ _ c.requires refl refl
