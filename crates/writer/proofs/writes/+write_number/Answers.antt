use Rattle.std.proofs.Common.{◌≡◌, ℕ, ◌+◌, length, decimal, ◌∙◌, arith}
use Rattle.writer.proofs.Writing.{len_one, len_more, digit_more, digit_alone}
use Rattle.writer.proofs.writes.+write_number.Goals as goal
use Rattle.writer.proofs.writes.+write_number.Goals.{then-n-ge10, else-n-ge10, Joined-n-ge10}

placed : (t : ℕ) (c : Joined-n-ge10 t) → c.if-n-ge10.place + 1 ≡ c.args.at + length (decimal c.args.n)
placed t c =
    elim c.if-n-ge10.branch [
      | then-n-ge10 w ↦ omega (arith, len_more c.args.n (omega (arith, w.if-n-ge10.true)) (omega arith), w.place-is, w.write_number-place.ensures.end)
      | else-n-ge10 w ↦ omega (arith, len_one c.args.n (omega (arith, w.if-n-ge10.false)), w.place-is)
    ]

pub write_number-place-requires : goal.write_number-place-requires
write_number-place-requires t c =
    let l = len_more c.args.n c.if-n-ge10.true (omega arith) in
    (omega (arith, c.decreases), omega arith)

pub bounds-out-place : goal.bounds-out-place
bounds-out-place t c = omega (arith, placed t (goal.at.bounds-out-place t c).Joined-n-ge10)

pub overflow_add-result : goal.overflow_add-result
overflow_add-result t c = omega (arith, placed t (goal.at.overflow_add-result t c).Joined-n-ge10)

pub returns : goal.returns
returns t c =
    record {
      end = placed t (goal.at.returns t c).Joined-n-ge10;
      bytes =
          elim c.if-n-ge10.branch [
            | then-n-ge10 w ↦ digit_more _ _ _ _ _ _ c.last_digit.ensures w.if-n-ge10.true (omega arith) c.requires.room (w.out-is ∙ w.write_number-place.ensures.bytes) (w.place-is ∙ w.write_number-place.ensures.end)
            | else-n-ge10 w ↦ digit_alone _ _ _ _ _ _ c.last_digit.ensures w.if-n-ge10.false c.requires.room w.out-is w.place-is
          ];
    }
