use Rattle.line.specs.Joining.{shows_side}
use Rattle.line.proofs.joined.JoinedExactLine.show.Goals as goal

pub returns : goal.returns
returns g c =
    let s = c.args.self.now in
    shows_side (g.Top.Line.meaning s.0) (g.Low.Line.meaning s.1) (g.Top.ExactLine.leaves s.0) (g.Low.ExactLine.leaves s.1)
    c.count.result c.args.place c.args.window c.args.sheet.now c.show_on.new.sheet c.args.list.now c.show_on.new.list _
    c.in_ok-may_show.ensures c.count.ensures c.side.result c.show_on.result c.side.ensures c.show_on.ensures
