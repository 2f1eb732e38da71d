use Rattle.std.proofs.Common.{eqb, vec_items, ◌∙◌, rules, tests}
use Rattle.std.proofs.lemmas.Iterator.{YieldsList-from_slice}
use Rattle.std.proofs.lemmas.Iterator.Search.{position_from_yields_List}
use Rattle.table.proofs.Reading.{first_place}
use Rattle.table.specs.declared.make.Task.{Task}
use Rattle.table.proofs.table.Table.place_of.Goals as goal

pub returns-clause-place : goal.returns-clause-place
returns-clause-place c =
    position_from_yields_List (λ (t : Task). eqb t.number c.args.number) _ _ _ c.position.ensures.ran
    (YieldsList-from_slice (vec_items c.args.self.now.tasks) (c.iter.ensures.rest ∙ c.deref.ensures.value)) (λ x b q k. search (rules, tests))
    ∙ first_place c.args.number (vec_items c.args.self.now.tasks)
