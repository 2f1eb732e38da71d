use Rattle.std.proofs.Common.{Ok, rules}
use Rattle.table.specs.Laws.{table_lawful}
use Rattle.bench.specs.State.{state}
use Rattle.bench.proofs.Easing.{change_eases}
use Rattle.bench.proofs.bench.Bench.change.Goals as goal

pub returns-clause-eases : goal.returns-clause-eases
returns-clause-eases c =
    let was = c.args.self.now in
    let is = c.forget_verdict.new.self in
    change_eases (state was) (state is) c.args.number c.args.change c.args.sheet.now c.change.new.sheet (Ok tt) (search rules) (table_lawful was.editor.table) (table_lawful is.editor.table)
