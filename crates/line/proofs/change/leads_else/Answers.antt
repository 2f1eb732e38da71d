use Rattle.std.proofs.Common.{refl, ap, ◌∙◌, arith, rules, tests}
use Rattle.std.proofs.lemmas.Iterator.{YieldsList-from_range}
use Rattle.std.proofs.lemmas.Iterator.Search.{any_from_yields_List}
use Rattle.line.specs.Meaning.{task_at}
use Rattle.line.specs.Changes.{goes_else, leads_else}
use Rattle.line.proofs.Ranges.{any_below}
use Rattle.line.proofs.change.leads_else.Goals as goal

pub returns : goal.returns
returns g c =
    let G = (task_at (g.L.Line.meaning c.args.line.now) c.args.place).graph in
    any_from_yields_List (goes_else G c.args.from c.args.to) _ _ _ c.any.ensures.ran (YieldsList-from_range 0 c.modes.result c.modes.result refl (omega arith)) (λ x b q k. search (rules, tests))
    ∙ any_below _ (leads_else G c.args.from c.args.to) refl (λ k. refl) c.modes.result ∙ ap (leads_else G c.args.from c.args.to) c.modes.ensures
