use Rattle.std.proofs.Common.{ap, ◌∙◌, arith}
use Rattle.line.specs.Joins.{joined}
use Rattle.table.specs.Items.{line_of}
use Rattle.table.specs.Tables.{items}
use Rattle.cases.specs.Beside.{guarded_line}
use Rattle.cases.proofs.Joining.{judged_beside}
use Rattle.cases.proofs.beside.judge_with.Goals as goal

pub returns : goal.returns
returns c =
    let parts = c.join-both.ensures.parts in
    let below = line_of (items c.join-both.result.1) in
    let same = ap (λ s. joined (guarded_line s) below) parts.0 ∙ ap (λ t. joined (guarded_line c.args.own) (line_of (items t))) parts.1 in
    let d =
    judged_beside (guarded_line c.args.own) (line_of (items c.args.table)) _ _ c.args.cells.now c.judge.new.cells c.judge.result same
    c.in_ok-may_join.ensures (omega arith) c.judge.ensures.answer c.judge.ensures.cells c.judge.ensures.judged in
    record { answer = d.0; cells = d.1; judged = d.2 }
