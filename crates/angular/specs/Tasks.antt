-- What an angular task means. Assumes nothing.
use Rattle.line.specs.Meaning.{Task}
use Rattle.modes.specs.Plans.{Plan, graph_of}
use Rattle.angular.specs.Best.{most_of}

-- An angular task over the graph of a plan: its most is the greatest work of a walk that fits.
abbrev pub angular_task : Plan → Task
angular_task p = record { graph = graph_of p; most = most_of (graph_of p) }
