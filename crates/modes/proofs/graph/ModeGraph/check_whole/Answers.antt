use Rattle.std.proofs.Common.{◌≡◌, Ok, Err, rules}
use Rattle.line.specs.declared.refusal.Refusal.TheVariants.{NoLinkOut}
use Rattle.modes.specs.Plans.{whole_answer}
use Rattle.modes.specs.Graphs.{plan}
use Rattle.modes.proofs.Plans.{whole_law}
use Rattle.modes.proofs.graph.ModeGraph.check_whole.Goals as goal

pub returns-then-is_empty : goal.returns-then-is_empty
returns-then-is_empty c =
    let p = plan c.args.self.now in
    let a : Err NoLinkOut ≡ whole_answer p = search rules in
    record { answer = a; whole = whole_law p (Err NoLinkOut) a }

pub returns : goal.returns
returns c =
    let p = plan c.args.self.now in
    let a : Ok tt ≡ whole_answer p = search rules in
    record { answer = a; whole = whole_law p (Ok tt) a }
