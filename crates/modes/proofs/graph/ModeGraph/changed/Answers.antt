use Rattle.std.proofs.Common.{ap, ◌∙◌, arith}
use Rattle.modes.specs.Plans.{whole_answer}
use Rattle.modes.specs.Graphs.{plan}
use Rattle.modes.proofs.Changing.{changed_whole}
use Rattle.modes.proofs.graph.ModeGraph.changed.Goals as goal

pub returns : goal.returns
returns c =
    let g = c.args.self in
    let e = c.change.ensures in
    record { plan = e; whole = λ h. ap whole_answer e ∙ changed_whole (plan g) c.args.change.change (omega (arith, g.few, g.modes.ok.0)) c.requires h }
