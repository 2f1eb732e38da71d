use Rattle.std.proofs.Common.{◌≡◌, false, is_ok, rules}
use Rattle.std.proofs.lemmas.Bool.{cond-false}
use Rattle.modes.specs.Plans.{Plan, link_answer, after_link}
use Rattle.editor.proofs.Drafting.{made}
use Rattle.editor.proofs.editor.Editor.link.Goals as goal

pub returns : goal.returns
returns c =
    let link = λ (p : Plan). link_answer p c.args.from c.args.to c.args.gap in
    let linked = λ (p : Plan). after_link p c.args.from c.args.to c.args.gap in
    let same : (p : Plan) → is_ok (link p) ≡ false → linked p ≡ p = λ p e. cond-false _ _ p e in
    let m = made link linked _ _ same (λ g r h e. (search rules, search rules)) _ c.args.self.now c.with_graph.new.self c.with_graph.result c.in_ok-check_link.ensures c.with_graph.ensures.draft c.with_graph.ensures.table in
    record { answer = m.0; after = m.1 }
