use Rattle.std.proofs.Common.{max, length, ◌∙◌, refl, rules, arith}
use Rattle.std.proofs.lemmas.Iterator.{YieldsList-from_range, YieldsList-from_map}
use Rattle.std.proofs.lemmas.Iterator.Consumers.{fold_from_yields_List}
use Rattle.modes.specs.Graphs.{plan}
use Rattle.modes.specs.Plans.{gap_at}
use Rattle.angular.specs.Best.{offer}
use Rattle.angular.specs.Sheets.{cell_at}
use Rattle.angular.proofs.Offers.{greatest_offer}
use Rattle.angular.proofs.sheet.Sheet.follow.Goals as goal

pub returns : goal.returns
returns c =
    let s = c.args.self.now in
    let p = plan s.graph.now in
    let n = length p.modes in
    fold_from_yields_List _ max 0 _ c.fold.ensures.ran
    (YieldsList-from_map _ (λ b. offer (gap_at p c.args.m b) c.args.w (cell_at s.cells.now b)) (YieldsList-from_range 0 n n (search rules) (omega arith)) refl (λ x r q k. search rules)) (λ a x b q k. search rules)
    ∙ greatest_offer p (cell_at s.cells.now) c.args.m c.args.w c.requires.from
