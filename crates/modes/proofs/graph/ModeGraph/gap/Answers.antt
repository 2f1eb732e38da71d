use Rattle.std.proofs.Common.{◌∙◌, arith}
use Rattle.modes.specs.Graphs.{plan}
use Rattle.modes.proofs.Plans.{tall, gap_read, gap_between}
use Rattle.modes.proofs.graph.ModeGraph.gap.Goals as goal

pub index-requires : goal.index-requires
index-requires c = omega (arith, tall c.args.self.now, c.args.self.now.few)

pub returns-then-to-len : goal.returns-then-to-len
returns-then-to-len c =
    let g = c.args.self.now in
    gap_read g c.args.from c.args.to c.index.result.now (omega (arith, g.few)) (omega (arith, g.few)) c.index.ensures
    ∙ gap_between (plan g) c.args.from c.args.to (omega (arith, g.modes.ok.0)) (omega (arith, g.modes.ok.0))
