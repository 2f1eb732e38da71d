use Rattle.std.proofs.Common.{◌∙◌, arith}
use Rattle.modes.specs.Plans.{graph_of}
use Rattle.modes.specs.Graphs.{plan}
use Rattle.angular.proofs.Sheets.{filled_more}
use Rattle.angular.proofs.sheet.fill.Goals as goal

pub loop-w-preserved : goal.loop-w-preserved
loop-w-preserved c =
    let now = c.column.ensures in
    record { filled = filled_more (graph_of (plan c.args.graph.now)) c.column.new.cells c.loop-w.w now.before now.here; kept = λ k h. now.kept k h ∙ c.loop-w.invariant.kept k h }

pub returns : goal.returns
returns c = record { filled = λ m u lm lu. c.loop-w.invariant.filled m u lm (omega arith); kept = c.loop-w.invariant.kept }
