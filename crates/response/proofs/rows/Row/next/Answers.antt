use Rattle.std.proofs.Common.{◌+◌, refl, arith}
use Rattle.response.proofs.Adding.{sum_fits}
use Rattle.response.proofs.rows.Row.next.Goals as goal

pub overflow_add-sum : goal.overflow_add-sum
overflow_add-sum g c =
    let row = c.args.self in
    let w = c.loop-window.window in
    let m = g.L.Line.meaning row.line.now in
    omega (arith, sum_fits m row.place (row.place + 1) w c.loop-window.sum-items refl (c.loop-window.invariant.left w (omega arith) (omega arith)) row.laws (omega arith), c.most.ensures)
