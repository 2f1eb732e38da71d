use Rattle.std.proofs.Common.{arith}
use Rattle.writer.proofs.Writing.{wrote_more, wrote_length}
use Rattle.writer.proofs.writes.write_field.Goals as goal

pub returns : goal.returns
returns c =
    let w = c.write_byte-place.ensures in
    wrote_more w (record { fits = omega (arith, wrote_length w, w.ends); ends = c.write_number.ensures.end; bytes = c.write_number.ensures.bytes })
