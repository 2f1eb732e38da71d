use Rattle.std.proofs.Common.{vec_items, ap, ◌∙◌, arith}
use Rattle.line.specs.Rows.{cells}
use Rattle.modes.specs.Plans.{right_mode}
use Rattle.modes.specs.Graphs.{plan}
use Rattle.modes.proofs.Plans.{add_passed, added_right}
use Rattle.modes.proofs.graph.ModeGraph.add.Goals as goal

pub invariant_of-self : goal.invariant_of-self
invariant_of-self c =
    let g = c.args.self.now in
    let ok = add_passed (plan g) c.args.cost c.args.deadline _ c.in_ok-may_add.ensures in
    let pushed = c.push_reserved.ensures in
    let right =
    added_right (vec_items g.modes) (vec_items c.push_reserved.new.self) c.new.result (cells (vec_items g.gaps)) pushed.items
    (ap right_mode c.new.ensures ∙ ok.0) g.limits g.links in
    record { few = omega (arith, ok.1, g.modes.ok.0, pushed.len); room = omega (arith, g.room, pushed.capacity); square = g.square; rows = g.rows; limits = right.0; links = right.1 }
