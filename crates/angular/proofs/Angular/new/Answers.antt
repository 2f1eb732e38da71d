use Rattle.std.proofs.Common.{sym, refl, subst, arith}
use Rattle.modes.specs.declared.graph.ModeGraph.{ModeGraph}
use Rattle.modes.specs.Plans.{graph_of}
use Rattle.modes.specs.Graphs.{plan}
use Rattle.angular.specs.Greatest.{Most}
use Rattle.angular.specs.Sheets.{RowTo}
use Rattle.modes.proofs.Plans.{graph_laws, whole_some}
use Rattle.angular.proofs.Shows.{row_refilled}
use Rattle.angular.specs.Walks.{most_is}
use Rattle.angular.proofs.Angular.new.Goals as goal

pub returns : goal.returns
returns c =
    let G = graph_of (plan c.args.graph) in
    let now = subst (λ (g : ModeGraph). RowTo (graph_of (plan g)) c.write_row.new.row 1001) c.new.ensures.graph c.write_row.ensures in
    let row = row_refilled G c.args.row c.write_row.new.row (omega (arith, c.write_row.auto.row, c.deref_mut.ensures.len)) now in
    record {
      same = refl;
      most = λ w h. subst (Most G w) (sym (row w h)) (most_is G (graph_laws c.args.graph (whole_some (plan c.args.graph) c.requires.whole)) w);
      filled = c.fill.ensures.filled;
      kept = c.fill.ensures.kept;
    }
