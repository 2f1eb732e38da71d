-- A change of a draft's graph, as a change of its plan. Assumes nothing.
use Rattle.std.proofs.Common.{◌≡◌, Bool, true, false, cond, List, is_ok, Some, None, Ok, Err, Option, sym, refl, ap, ◌∙◌}
use Rattle.std.specs.Option.{option_map}
use Rattle.std.specs.Fn.{FnOnceReturnsAtMut}
use denote.Param.Members.{Once}
use denote.Ref.{MutBor}
use Rattle.line.specs.Answers.{Answer, and_then}
use Rattle.modes.specs.Plans.{Plan}
use Rattle.modes.specs.Graphs.{plan}
use Rattle.modes.specs.declared.graph.ModeGraph.{ModeGraph}
use Rattle.table.specs.Items.{Item}
use Rattle.editor.specs.Drafts.{Outline, outline, GraphChanged}
use Rattle.editor.specs.Desks.{Desk, desk, on_draft, replanned}
use Rattle.editor.specs.declared.editor.Editor.{Editor}
use Rattle.table.specs.Tables.{items}
use Rattle.table.specs.declared.table.Table.{Table}
use Rattle.std.proofs.lemmas.Bool.{false≢true}
use Rattle.editor.specs.declared.editor.Sketch.{Sketch}

module _ (answer : Plan → Answer) (after : Plan → Plan) where
  -- What a change of a graph answers, and the plan that it leaves.
  abbrev pub Plans : {F : Type 0} → Once F (MutBor ModeGraph × Unit {0}) (Answer × (MutBor ModeGraph × Unit {0})) → F → Type 0
  Plans call change = (g : ModeGraph) (r : Answer) (h : ModeGraph) → FnOnceReturnsAtMut call change g r h → (r ≡ answer (plan g)) × (plan h ≡ after (plan g))

  module _ {F : Type 0} (call : Once F (MutBor ModeGraph × Unit {0}) (Answer × (MutBor ModeGraph × Unit {0}))) (change : F) (plans : Plans call change) where
    answered : (d d' : Option Sketch) (r : Answer) → GraphChanged call change d r d' → r ≡ on_draft (option_map outline d) answer
    answered None d' r h = h.0
    answered (Some s) d' r h = (plans s.graph r h.0 h.1).0

    drafted : (is : List Item) (d d' : Option Sketch) (r : Answer) → GraphChanged call change d r d'
        → ◌≡◌ {A = Desk} (record { tasks = is; draft = option_map outline d' }) (replanned after (record { tasks = is; draft = option_map outline d }))
    drafted is None d' r h = ap (λ (x : Option Sketch). let y : Desk = record { tasks = is; draft = option_map outline x } in y) h.1
    drafted is (Some s) d' r h =
        ap (λ (x : Option Sketch). let y : Desk = record { tasks = is; draft = option_map outline x } in y) h.2
        ∙ ap (λ (p : Plan). let y : Desk = record { tasks = is; draft = Some (record { number = s.number; place = s.place; plan = p }) } in y) (plans s.graph r h.0 h.1).1

  -- A refusal changes nothing.
  kept : ((p : Plan) → is_ok (answer p) ≡ false → after p ≡ p) → (d : Desk) → replanned after d ≡ cond (is_ok (on_draft d.draft answer)) (replanned after d) d
  kept same d = go d.draft
    where
      with : Option Outline → Desk
      with o = record { tasks = d.tasks; draft = o }

      pick : (o : Outline) (b : Bool) → is_ok (answer o.plan) ≡ b → replanned after (with (Some o)) ≡ cond b (replanned after (with (Some o))) (with (Some o))
      pick o true e = refl
      pick o false e = ap (λ p. with (Some (record { number = o.number; place = o.place; plan = p }))) (same o.plan e)

      go : (o : Option Outline) → replanned after (with o) ≡ cond (is_ok (on_draft o answer)) (replanned after (with o)) (with o)
      go None = refl
      go (Some o) = pick o (is_ok (answer o.plan)) refl

  -- A call that passed a check makes a change of the draft's graph: what it answers, and what it leaves.
  module _ {F : Type 0} (call : Once F (MutBor ModeGraph × Unit {0}) (Answer × (MutBor ModeGraph × Unit {0}))) (change : F)
      (same : (p : Plan) → is_ok (answer p) ≡ false → after p ≡ p) (plans : Plans call change) where
    pub made : (x : Answer) (e f : Editor) (r : Answer) → Ok tt ≡ x → GraphChanged call change e.draft r f.draft → f.table ≡ e.table
        → (r ≡ and_then x (on_draft (desk e).draft answer)) × (desk f ≡ cond (is_ok (and_then x (on_draft (desk e).draft answer))) (replanned after (desk e)) (desk e))
    made (Ok u) e f r passed h table = (
      answered call change plans e.draft f.draft r h,
      ap (λ (t : Table). let y : Desk = record { tasks = items t; draft = option_map outline f.draft } in y) table
          ∙ drafted call change plans (items e.table) e.draft f.draft r h ∙ kept same (desk e),
    )
    made (Err x) e f r passed h table = absurd (false≢true (sym (ap is_ok passed)))
