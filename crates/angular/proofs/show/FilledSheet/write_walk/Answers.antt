use Rattle.std.proofs.Common.{sym, subst, arith}
use Rattle.line.specs.Lawful.{GraphLaws}
use Rattle.modes.specs.Plans.{graph_of}
use Rattle.modes.specs.Graphs.{plan}
use Rattle.modes.proofs.Plans.{graph_laws}
use Rattle.angular.specs.Sheets.{Filled}
use Rattle.angular.specs.declared.show.FilledSheet.{FilledSheet}
use Rattle.angular.proofs.Sheets.{filled_from}
use Rattle.angular.proofs.Shows.{Shows_on, shows_nothing, shows_start, shows_next}
use Rattle.angular.proofs.show.FilledSheet.write_walk.Goals.{then-window-gt0, else-window-gt0}
use Rattle.angular.proofs.show.FilledSheet.write_walk.Goals as goal

laws : (s : FilledSheet) → GraphLaws (graph_of (plan s.sheet.graph.now))
laws s = graph_laws s.sheet.graph.now s.some

full : (s : FilledSheet) → Filled (graph_of (plan s.sheet.graph.now)) s.sheet.cells.now
full s = filled_from (graph_of (plan s.sheet.graph.now)) s.sheet.cells.now (laws s) s.exact

pub loop-n-init : goal.loop-n-init
loop-n-init c =
    let s = c.args.self.now in
    let p = plan s.sheet.graph.now in
    let list = c.args.list.now in
    elim c.if-window-gt0.branch [
      | then-window-gt0 w ↦ subst (Shows_on p s.sheet.cells.now c.args.window list list 0) (sym w.at-is) (shows_start p (laws s) s.sheet.cells.now (full s) c.args.window c.requires.window list w.start.result w.if-window-gt0.true w.start.ensures.mode w.start.ensures.top)
      | else-window-gt0 w ↦ subst (Shows_on p s.sheet.cells.now c.args.window list list 0) (sym w.at-is) (shows_nothing p (laws s) s.sheet.cells.now (full s) c.args.window c.requires.window list (omega (arith, w.if-window-gt0.false)))
    ]

pub loop-n-preserved : goal.loop-n-preserved
loop-n-preserved c =
    let s = c.args.self.now in
    shows_next (plan s.sheet.graph.now) (laws s) s.sheet.cells.now (full s) c.args.window c.requires.window c.args.list.now c.loop-n.list c.loop-n.n c.loop-n.at c.loop-n.invariant c.in-Some.m c.in-Some.w c.in-Some.is (omega arith) c.onward-at.result c.onward-at.ensures
