use Rattle.std.proofs.Common.{get_or, sym, ap, ◌∙◌, arith}
use Rattle.response.proofs.Showing.{cleared_low, done}
use Rattle.response.proofs.Easing.{bounds_ease, fits_still}
use Rattle.response.proofs.Keeping.{never_late}
use Rattle.response.proofs.judge.Goals as goal

pub judge_places-requires : goal.judge_places-requires
judge_places-requires g c = record {
  lawful = c.requires;
  room = omega arith;
  zeros = λ n h. ap (λ s. get_or s n 0) c.clear.ensures ∙ cleared_low c.args.cells.now n h;
}

pub returns : goal.returns
returns g c =
    let m = g.L.Line.meaning c.args.line.now in
    let laws = g.met.L.Line.keeps c.args.line.now c.requires in
    let found = c.judge_places.ensures.verdict in
    let d = done m laws c.args.cells.now c.clear.new.cells c.judge_places.new.cells c.judge_places.result (omega arith) (omega arith) c.clear.ensures found c.judge_places.ensures.shows in
    record { answer = d.0; cells = d.1; judged = d.2; eases = λ from n e. (bounds_ease from n m e, fits_still from n m e); safe = λ fits. never_late m laws (sym found ∙ fits) }
