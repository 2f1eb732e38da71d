use Rattle.table.specs.Tables.{items}
use Rattle.table.specs.Tasks.{item_of}
use Rattle.table.specs.Laws.{shows_task}
use Rattle.table.proofs.table.questions.TableExactLine.show.Goals as goal

pub returns-in-Some : goal.returns-in-Some
returns-in-Some c =
    shows_task (items c.args.self.now) (item_of c.in-Some.t.now) c.len.result c.args.place c.args.window
    c.args.sheet.now c.show.new.sheet c.args.list.now c.show.new.list c.show.result _
    c.in_ok-may_show.ensures c.len.ensures c.in-Some.ensures.item.1 c.show.ensures
