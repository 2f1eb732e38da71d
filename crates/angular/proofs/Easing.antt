-- An angular task after an accepted change asks for no more than before. Assumes nothing.
use Rattle.std.proofs.Common.{◌≡◌, Ok}
use Rattle.line.specs.Lawful.{GraphLaws}
use Rattle.line.specs.Lighter.{Eased}
use Rattle.line.specs.Changes.{change_answer}
use Rattle.line.specs.declared.change.Change.{Change}
use Rattle.modes.specs.Plans.{Plan, graph_of, changed_plan}
use Rattle.modes.proofs.Changing.{changed_lighter}
use Rattle.angular.specs.Tasks.{angular_task}
use Rattle.angular.specs.Walks.{monotone}

pub changed_eased : (p : Plan) (c : Change) → change_answer (graph_of p) c ≡ Ok tt → GraphLaws (graph_of p) → GraphLaws (graph_of (changed_plan c p)) → Eased (angular_task (changed_plan c p)) (angular_task p)
changed_eased p c h was is =
    let l = changed_lighter p c h in
    record { graph = l; most = λ w hw. monotone (graph_of (changed_plan c p)) (graph_of p) l.lighter is was w }
