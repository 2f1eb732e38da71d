use Rattle.std.proofs.Common.{arith}
use Rattle.modes.specs.Plans.{graph_of}
use Rattle.modes.specs.Graphs.{plan}
use Rattle.angular.proofs.Sheets.{put_before, put_row, put_kept}
use Rattle.angular.proofs.sheet.column.Goals as goal

pub loop-m-preserved : goal.loop-m-preserved
loop-m-preserved c =
    let g = c.args.graph.now in
    let G = graph_of (plan g) in
    let s = c.loop-m.cells in
    let m = c.loop-m.m in
    let w = c.args.w in
    let v = c.greatest-work.result in
    let i = c.loop-m.invariant in record {
      before = put_before G s m w v c.requires.window i.before;
      here = put_row G s m w v c.requires.window (omega (arith, g.few, g.modes.ok.0)) i.here c.greatest-work.ensures;
      kept = put_kept G s m w v c.requires.window c.args.cells.now (omega arith) i.kept;
    }
