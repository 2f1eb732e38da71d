use Rattle.std.proofs.Common.{◌-◌, ◌*◌, sym, arith}
use Rattle.line.specs.Meaning.{task_at, modes_in}
use Rattle.response.specs.Bounds.{bound_of}
use Rattle.response.proofs.Judging.{over_start, over_here}
use Rattle.response.proofs.Showing.{shows_none, shows_reached}
use Rattle.response.proofs.places.judge_place.Goals as goal

pub loop-mode-init : goal.loop-mode-init
loop-mode-init g c =
    let row = c.args.row.now in
    let m = g.L.Line.meaning row.line.now in
    record { over = over_start m row.place; shows = shows_none m (row.place * 16) c.args.cells.now }

pub returns-in-None : goal.returns-in-None
returns-in-None g c =
    let row = c.args.row.now in
    let m = g.L.Line.meaning row.line.now in
    let p = row.place in
    let i = c.loop-mode.mode in
    let over = over_here m p (modes_in (task_at m p) - i) i (omega (arith, c.modes-modes.ensures)) c.loop-mode.invariant.over (sym {b = bound_of m p i} c.in-None.ensures) in
    record { over = sym over; shows = shows_reached m p i c.args.cells.now c.loop-mode.cells over c.loop-mode.invariant.shows }
