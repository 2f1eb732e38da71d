use Rattle.std.proofs.Common.{◌≡◌, length, ap, ◌∙◌, arith}
use Rattle.table.specs.Items.{line_of}
use Rattle.table.specs.Tables.{items}
use Rattle.table.specs.declared.table.Table.{Table}
use Rattle.response.specs.Verdicts.{verdict_of, bound_cells}
use Rattle.bench.specs.State.{on_numbers}
use Rattle.bench.proofs.Judging.{found, shown}
use Rattle.bench.proofs.bench.Bench.judge.Goals as goal

pub returns : goal.returns
returns c =
    let n : length c.args.self.now.bounds ≡ 256 = omega arith in
    let t = c.table-table.result.now in
    let m = line_of (items t) in
    let same = c.table-table.ensures in
    let v = c.named-verdict.ensures ∙ ap (on_numbers (items t)) (found m c.args.self.now.bounds n c.in-Ok.found c.in-Ok.ensures.answer) in
    let b = c.judge.ensures.cells ∙ shown m c.args.self.now.bounds n in
    let v' = v ∙ ap (λ (x : Table). on_numbers (items x) (verdict_of (line_of (items x)))) same in
    let b' = b ∙ ap (λ (x : Table). bound_cells (line_of (items x))) same in
    record { answer = v'; after = cc (v', b') }
