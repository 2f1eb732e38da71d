use Rattle.std.proofs.Common.{◌≡◌, ◌+◌, ◌-◌, ◌*◌}
use Rattle.line.specs.Meaning.{task_at, modes_in}
use Rattle.response.specs.Bounds.{first_from}
use Rattle.response.specs.Verdicts.{lacks, over_in}
use Rattle.response.specs.Rows.{Shows}
use Rattle.response.proofs.places.judge_place.Given as goal

-- The modes that are left give what the whole place gives, and the cells of those before show their bounds.
abbrev pub invariant-loop-mode : goal.invariant-loop-mode
invariant-loop-mode g l =
    let m = g.L.Line.meaning l.row.line.now in
    let p = l.row.place in record {
      over : over_in m p ≡ first_from (lacks m p) (modes_in (task_at m p) - l.mode) l.mode;
      shows : Shows m (p * 16) (p * 16 + l.mode) l.initial.cells l.cells;
    }
