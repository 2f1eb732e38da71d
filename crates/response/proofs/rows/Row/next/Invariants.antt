use Rattle.std.proofs.Common.{◌≡◌, ℕ, ◌+◌, ◌<◌, ◌≤◌, get_or}
use Rattle.response.specs.Bounds.{above}
use Rattle.response.proofs.rows.Row.next.Given as goal

-- The work of the place that is left is in the cells that have been passed, and not yet in the others.
abbrev pub invariant-loop-window : goal.invariant-loop-window
invariant-loop-window g l =
    let m = g.L.Line.meaning l.line in record {
      done : (w : ℕ) → w < l.window → get_or l.sum-items w 0 ≡ above m w (l.place + 1);
      left : (w : ℕ) → l.window ≤ w → w ≤ 1000 → get_or l.sum-items w 0 ≡ above m w l.place;
    }
