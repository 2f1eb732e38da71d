-- What a graph of modes means. Assumes nothing.
use Rattle.std.specs.Prelude.{vec_items}
use Rattle.line.specs.Rows.{cells}
use Rattle.modes.specs.declared.graph.ModeGraph.{ModeGraph}
use Rattle.modes.specs.Plans.{Plan}

-- The plain value that a graph of modes holds.
abbrev pub plan : ModeGraph → Plan
plan g = record { modes = vec_items g.modes; gaps = cells (vec_items g.gaps) }
