use Rattle.std.proofs.Common.{is_some, ap, ◌∙◌, rules, tests, arith}
use Rattle.std.specs.List.{list_any, list_all}
use Rattle.std.proofs.lemmas.Iterator.{YieldsList-from_slice}
use Rattle.std.proofs.lemmas.Iterator.Search.{all_from_yields_List}
use Rattle.modes.specs.Graphs.{plan}
use Rattle.modes.specs.Plans.{graph_of}
use Rattle.modes.proofs.Plans.{rows_lead}
use Rattle.modes.proofs.graph.ModeGraph.all_lead_out.Goals as goal

pub returns : goal.returns
returns c =
    let g = c.args.self.now in
    let G = graph_of (plan g) in
    all_from_yields_List (list_any is_some) _ _ _ c.all.ensures.ran (YieldsList-from_slice _ c.iter.ensures.rest) (λ x b q k. search (rules, tests))
    ∙ ap (list_all (list_any is_some)) c.rows.ensures
    ∙ rows_lead g G.modes (omega arith)
