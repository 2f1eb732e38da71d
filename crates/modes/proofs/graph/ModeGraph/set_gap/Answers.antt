use Rattle.std.proofs.Common.{ℕ, List, length, vec_items, Option, sym, ap, ◌∙◌, subst, arith, length-set}
use Rattle.line.specs.Rows.{cells}
use Rattle.modes.specs.Plans.{Plan, RightGaps}
use Rattle.modes.proofs.Plans.{set_right, gap_written, tall}
use Rattle.modes.proofs.graph.ModeGraph.set_gap.Goals as goal

pub index_mut-requires : goal.index_mut-requires
index_mut-requires c = omega (arith, tall c.args.self.now, c.requires.near)

pub invariant_of-self : goal.invariant_of-self
invariant_of-self c =
    let g = c.args.self.now in
    let old = cells (vec_items g.gaps) in
    let w = gap_written g c.args.from c.args.to c.index_mut.result.now c.args.gap c.requires.near c.requires.last c.index_mut.ensures.value in
    let links = set_right (vec_items g.modes) old c.args.from c.args.to c.args.gap c.requires.near c.requires.last g.square g.links c.requires.right in
    record {
      few = g.few;
      room = g.room;
      square = ap length w.0 ∙ length-set old _ c.args.gap ∙ g.square;
      rows = w.1;
      limits = g.limits;
      links = subst (RightGaps (vec_items g.modes)) (sym w.0) links;
    }

pub returns : goal.returns
returns c =
    let g = c.args.self.now in
    let w = gap_written g c.args.from c.args.to c.index_mut.result.now c.args.gap c.requires.near c.requires.last c.index_mut.ensures.value in
    let P : List (Option ℕ) → Plan = λ gs. record { modes = vec_items g.modes; gaps = gs } in
    ap P w.0
