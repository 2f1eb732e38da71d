use Rattle.std.proofs.Common.{vec_items, sym, ◌∙◌, rules, tests}
use Rattle.std.proofs.lemmas.Iterator.{YieldsList-from_slice}
use Rattle.std.proofs.lemmas.Iterator.Consumers.{YieldsList-from_filter, count_from_yields_List}
use Rattle.std.proofs.lemmas.List.Sums.{length-filter}
use Rattle.table.specs.Items.{is_angular}
use Rattle.table.specs.Tasks.{make_of}
use Rattle.table.proofs.Reading.{counted}
use Rattle.table.specs.declared.make.Task.{Task}
use Rattle.table.proofs.table.Table.angulars.Goals as goal

pub returns : goal.returns
returns c =
    let ts = vec_items c.args.self.now.tasks in
    count_from_yields_List c.filter.result _ c.count.ensures.ran
    (YieldsList-from_filter _ (λ (t : Task). is_angular (make_of t.make)) (YieldsList-from_slice ts (cc)) c.filter.ensures.closure (λ x b q k. search (rules, tests)))
    ∙ length-filter (λ t. is_angular (make_of t.make)) ts ∙ sym (counted ts)
