use Rattle.std.proofs.Common.{refl}
use Rattle.writer.proofs.Writing.{bytes_written}
use Rattle.writer.proofs.writes.write_bytes.Goals as goal

pub returns : goal.returns
returns c = record { end = refl; bytes = bytes_written c.args.out.now c.args.bytes.now _ c.args.at c.copy_from_slice.ensures.after }
