use Rattle.std.proofs.Common.{sym, ◌∙◌, rules}
use Rattle.modes.specs.Graphs.{plan}
use Rattle.angular.specs.Sheets.{cell_at}
use Rattle.angular.proofs.Offers.{nothing_left, nothing_more, goes_on}
use Rattle.angular.proofs.show.FilledSheet.onward.Goals as goal

pub returns-in_err-left : goal.returns-in_err-left
returns-in_err-left c =
    let s = c.args.self.now.sheet in
    let none = nothing_left (plan s.graph.now) (cell_at s.cells.now) c.args.m c.args.w c.pick-b.result c.requires.from c.pick-b.ensures.mode c.pick-b.ensures.top (sym c.in_err-left.was ∙ c.left.ensures) in
    search rules

pub returns-then-cell-eq0 : goal.returns-then-cell-eq0
returns-then-cell-eq0 c =
    let s = c.args.self.now.sheet in
    nothing_more (plan s.graph.now) (cell_at s.cells.now) c.args.m c.args.w c.pick-b.result c.requires.from c.pick-b.ensures.mode c.pick-b.ensures.top c.in_ok-left.left (sym c.in_ok-left.was ∙ c.left.ensures) (sym c.cell.ensures ∙ c.if-cell-eq0.true)

pub returns : goal.returns
returns c =
    let s = c.args.self.now.sheet in
    goes_on (plan s.graph.now) (cell_at s.cells.now) c.args.m c.args.w c.pick-b.result c.requires.from c.pick-b.ensures.mode c.pick-b.ensures.top c.in_ok-left.left (sym c.in_ok-left.was ∙ c.left.ensures)
