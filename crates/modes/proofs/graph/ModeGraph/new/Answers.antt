use Rattle.std.proofs.Common.{◌≡◌, length, replicate, None, vec_items, sym, ap, ◌∙◌, subst, arith}
use Rattle.line.specs.Rows.{cells, AllRows}
use Rattle.line.proofs.Rows.{blank_cells, blank_rows}
use Rattle.modes.proofs.Plans.{empty_gaps}
use Rattle.modes.proofs.graph.ModeGraph.new.Goals as goal

pub invariant_of-result : goal.invariant_of-result
invariant_of-result c =
    let m = c.in_ok-modes.ensures in
    let g = c.in_ok-gaps.ensures in
    let blank : cells (vec_items c.in_ok-gaps.gaps) ≡ replicate 256 None = ap cells g ∙ blank_cells None 16 in
    record {
      few = omega (arith, m.len);
      room = omega (arith, m.capacity);
      square = ap length blank;
      rows = subst AllRows (sym g) (blank_rows None 16);
      limits = λ i h. absurd (omega (arith, h, ap length m.items));
      links = empty_gaps _ _ blank;
    }
