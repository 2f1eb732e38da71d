-- A plan whose graph keeps the limits makes an angular task that keeps the laws. Assumes nothing.
use Rattle.std.proofs.Common.{arith}
use Rattle.line.specs.Lawful.{GraphLaws, TaskLaws}
use Rattle.modes.specs.Plans.{Plan, graph_of}
use Rattle.angular.specs.Tasks.{angular_task}
use Rattle.angular.specs.Walks.{most_is, most_bounded}

pub plan_laws : (p : Plan) → GraphLaws (graph_of p) → TaskLaws (angular_task p)
plan_laws p s = record {
  limits = s;
  most_covers = λ w hw l walk fits. (most_is (graph_of p) s w).bound l walk fits;
  most_fits = λ w hw. omega (arith, most_bounded (graph_of p) s w);
}
