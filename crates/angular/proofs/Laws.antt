-- Every angular task keeps the laws of a task. Assumes nothing.
use Rattle.line.specs.Lawful.{TaskLaws}
use Rattle.modes.specs.Graphs.{plan}
use Rattle.modes.proofs.Plans.{graph_laws}
use Rattle.angular.specs.Tasks.{angular_task}
use Rattle.angular.specs.Laws.{plan_laws}
use Rattle.angular.specs.declared.Angular.{Angular}

pub angular_laws : (a : Angular) → TaskLaws (angular_task (plan a.graph))
angular_laws a = plan_laws (plan a.graph) (graph_laws a.graph a.some)
