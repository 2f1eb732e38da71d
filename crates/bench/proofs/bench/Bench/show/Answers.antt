use Rattle.std.proofs.Common.{ap, ◌∙◌, subst}
use Rattle.line.specs.Shows as lines
use Rattle.table.specs.Items.{line_of, place_of}
use Rattle.table.specs.Tables.{items, table_leaves}
use Rattle.table.specs.declared.table.Table.{Table}
use Rattle.bench.specs.State.{state}
use Rattle.bench.proofs.Showing.{shows}
use Rattle.bench.proofs.bench.Bench.show.Goals as goal

pub returns-in-Some : goal.returns-in-Some
returns-in-Some c =
    let s = state c.args.self.now in
    let same = c.table-table.ensures in
    let found = c.in-Some.ensures.place ∙ ap (λ (t : Table). place_of c.args.number (items t)) same in
    let done =
    subst (λ (t : Table). lines.ShowDone (line_of (items t)) (table_leaves (items t) c.in-Some.place) c.in-Some.place c.args.window c.args.sheet.now c.show.new.sheet c.args.list.now c.show.new.list c.show.result)
    same c.show.ensures in
    shows s c.args.number c.in-Some.place c.args.window _ c.in_ok-check_task.ensures found c.in-Some.ensures.within.0 c.args.sheet.now c.show.new.sheet c.args.list.now c.show.new.list c.show.result done
