use Rattle.std.proofs.Common.{◌≡◌, false, is_ok, rules}
use Rattle.std.proofs.lemmas.Bool.{cond-false}
use Rattle.modes.specs.Plans.{Plan, add_answer, after_add}
use Rattle.editor.proofs.Drafting.{made}
use Rattle.editor.proofs.editor.Editor.mode.Goals as goal

pub returns : goal.returns
returns c =
    let add = λ (p : Plan). add_answer p c.args.cost c.args.deadline in
    let added = λ (p : Plan). after_add p c.args.cost c.args.deadline in
    let same : (p : Plan) → is_ok (add p) ≡ false → added p ≡ p = λ p e. cond-false _ _ p e in
    let m = made add added _ _ same (λ g r h e. (search rules, search rules)) _ c.args.self.now c.with_graph.new.self c.with_graph.result c.in_ok-check_mode.ensures c.with_graph.ensures.draft c.with_graph.ensures.table in
    record { answer = m.0; after = m.1 }
