use Rattle.std.proofs.Common.{◌≡◌, ◌-◌, ◌*◌}
use Rattle.response.specs.Verdicts.{first_over, over_from}
use Rattle.response.specs.Rows.{Shows}
use Rattle.response.proofs.places.judge_places.Given as goal

-- The places that are left give what the whole line gives, the row is at the last place that was judged, and the
-- cells of those judged show their bounds.
abbrev pub invariant-loop-place : goal.invariant-loop-place
invariant-loop-place g l =
    let m = g.L.Line.meaning l.line in record {
      over : first_over m ≡ over_from m (m.count - l.place) l.place;
      line : l.row.line.now ≡ l.line;
      place : l.row.place ≡ l.place - 1;
      shows : Shows m 0 (l.place * 16) l.initial.cells l.cells;
    }
