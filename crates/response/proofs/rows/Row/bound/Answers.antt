use Rattle.std.proofs.Common.{sym, arith}
use Rattle.line.proofs.Facts.{deadline_at}
use Rattle.response.proofs.Adding.{sums_light, least_bound}
use Rattle.response.proofs.rows.Row.bound.Goals as goal

pub least-requires-clause-light : goal.least-requires-clause-light
least-requires-clause-light g c =
    let row = c.args.self.now in
    let m = g.L.Line.meaning row.line.now in
    let short = deadline_at m row.laws row.place c.args.mode in
    λ w h. sums_light m row.laws row.place row.inside row.sums row.row w (omega (arith, c.deadline.ensures))

pub returns : goal.returns
returns g c =
    let row = c.args.self.now in
    sym (least_bound (g.L.Line.meaning row.line.now) row.laws row.place c.args.mode row.sums _ _ row.row c.cost.ensures c.deadline.ensures _ c.least.ensures)
