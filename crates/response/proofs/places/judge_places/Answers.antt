use Rattle.std.proofs.Common.{◌+◌, ◌-◌, ◌<◌, ◌∙◌, arith}
use Rattle.line.proofs.Facts.{modes_at}
use Rattle.response.proofs.Judging.{line_start, line_here, line_later, verdict_over, verdict_fits}
use Rattle.response.proofs.Showing.{shows_none, shows_stop, shows_next}
use Rattle.response.proofs.places.judge_places.Goals as goal

pub loop-place-init : goal.loop-place-init
loop-place-init g c =
    let m = g.L.Line.meaning c.args.line.now in
    record { over = line_start m; line = c.first-row.ensures.line; place = c.first-row.ensures.place; shows = shows_none m 0 c.args.cells.now }

pub returns-in-Some : goal.returns-in-Some
returns-in-Some g c =
    let m = g.L.Line.meaning c.args.line.now in
    let p = c.loop-place.place in
    let i = c.in-Some.mode in
    let line = c.reach-row.ensures.line ∙ c.loop-place.invariant.line in
    let place = c.reach-row.ensures.place in
    let found = rw (line, place) at c.in-Some.ensures.over in
    let shown = rw (line, place) at c.judge_place.ensures.shows in
    let over = line_here m (m.count - p) p (omega (arith, c.count-count.ensures)) c.loop-place.invariant.over i found in
    record { verdict = verdict_over m p i over; shows = shows_stop m p i c.args.cells.now c.loop-place.cells c.judge_place.new.cells found over c.loop-place.invariant.shows shown }

pub loop-place-preserved : goal.loop-place-preserved
loop-place-preserved g c =
    let m = g.L.Line.meaning c.args.line.now in
    let laws = g.met.L.Line.keeps c.args.line.now c.requires.lawful in
    let p = c.loop-place.place in
    let line = c.reach-row.ensures.line ∙ c.loop-place.invariant.line in
    let place = c.reach-row.ensures.place in
    let none = rw (line, place) at c.in_default.ensures.over in
    let shown = rw (line, place) at c.judge_place.ensures.shows in
    let inside : p < 16 = omega (arith, c.count-count.ensures, laws.few) in record {
      over = line_later m (m.count - p) p (omega (arith, c.count-count.ensures)) c.loop-place.invariant.over (m.count - (p + 1)) (omega arith) none;
      line = line;
      place = omega arith;
      shows = shows_next m p c.args.cells.now c.loop-place.cells c.judge_place.new.cells none (λ n h. c.requires.zeros n (omega arith)) (modes_at m laws p) c.loop-place.invariant.shows shown;
    }

pub returns-clause-verdict : goal.returns-clause-verdict
returns-clause-verdict g c =
    let m = g.L.Line.meaning c.args.line.now in
    verdict_fits m (m.count - c.loop-place.place) c.loop-place.place (omega (arith, c.count-count.ensures)) c.loop-place.invariant.over
