use Rattle.std.proofs.Common.{Some, Option, sym, refl, subst}
use Rattle.std.specs.Fn.{FnOnceReturnsAtMut}
use Rattle.editor.specs.Drafts.{GraphChanged}
use Rattle.editor.specs.declared.editor.Sketch.{Sketch}
use Rattle.editor.proofs.editor.Editor.with_graph.Goals as goal

pub returns-in-Some-clause-draft : goal.returns-in-Some-clause-draft
returns-in-Some-clause-draft g c =
    let old = c.in-Some.sketch in
    let graph = c.change.new.arg2 in
    let told : FnOnceReturnsAtMut g.F.FnOnce c.args.change old.graph c.change.result graph = record { shown = _; shows = refl; left = _; met = c.change.ensures; leaves = refl } in
    let after : Option Sketch = Some (record { number = old.number; place = old.place; graph = graph; row = old.row }) in
    subst (λ (d : Option Sketch). GraphChanged g.F.FnOnce c.args.change d c.change.result after) (sym c.in-Some.is) (graph, told, refl)
