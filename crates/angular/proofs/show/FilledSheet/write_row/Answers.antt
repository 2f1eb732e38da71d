use Rattle.std.proofs.Common.{◌∙◌, arith}
use Rattle.modes.specs.Plans.{graph_of}
use Rattle.modes.specs.Graphs.{plan}
use Rattle.modes.proofs.Plans.{graph_laws}
use Rattle.angular.proofs.Sheets.{filled_from}
use Rattle.angular.proofs.Shows.{start_most, row_more}
use Rattle.angular.proofs.show.FilledSheet.write_row.Goals as goal

pub loop-w-preserved : goal.loop-w-preserved
loop-w-preserved c =
    let s = c.args.self.now in
    let G = graph_of (plan s.sheet.graph.now) in
    let laws = graph_laws s.sheet.graph.now s.some in
    let w = c.loop-w.w in
    let top = start_most G s.sheet.cells.now w c.start.result laws (omega arith) (filled_from G s.sheet.cells.now laws s.exact) c.start.ensures.mode c.start.ensures.top in
    row_more G w _ c.loop-w.row (omega arith) c.loop-w.invariant (c.cell.ensures ∙ top)
