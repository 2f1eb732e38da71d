use Rattle.std.proofs.Common.{length, ◌∙◌, rules, tests, arith}
use Rattle.std.specs.List.{filter_map, range_with_len}
use Rattle.std.proofs.lemmas.Iterator.{YieldsList-from_range, YieldsList-from_map}
use Rattle.std.proofs.lemmas.Iterator.Consumers.{YieldsList-at, YieldsList-from_filter_map, sum_by_from_yields_List, fits_by_from_yields_list}
use Rattle.table.specs.Tables.{items}
use Rattle.forms.specs.Format.{spell}
use Rattle.save.specs.Slots.{slot_of}
use Rattle.save.proofs.Spelling.{lines_listed}
use Rattle.save.proofs.Rights.{table_together, table_rights}
use Rattle.save.proofs.Short.{task_short}
use Rattle.save.proofs.measure.task_len.Goals as goal

pub returns : goal.returns
returns c =
    let is = items c.args.table.now in
    let f = slot_of is c.args.place in
    let fs = filter_map f (range_with_len 0 273) in
    let s =
    sum_by_from_yields_List (λ g. length (spell g)) fs c.map.result c.sum.result c.sum.ensures.ran
    (YieldsList-from_map _ (λ g. length (spell g)) (YieldsList-at c.map.ensures.source (YieldsList-from_filter_map _ f (YieldsList-from_range 0 273 273 (search rules) (omega arith)) c.filter_map.ensures.closure (λ x r q k. search (rules, tests)))) c.map.ensures.closure (λ x r q k. search (rules, tests))) in
    let t = c.args.table.now in
    let e = s ∙ lines_listed is c.args.place c.requires (table_rights t) in
    record { is = e; short = omega (arith, e, task_short is c.args.place c.requires (table_together t) (table_rights t)) }

pub sum-requires-clause-fits : goal.sum-requires-clause-fits
sum-requires-clause-fits c =
    let is = items c.args.table.now in
    let f = slot_of is c.args.place in
    let fs = filter_map f (range_with_len 0 273) in
    let t = c.args.table.now in
    fits_by_from_yields_list (λ g. length (spell g)) fs c.map.result _
    (YieldsList-from_map _ (λ g. length (spell g)) (YieldsList-at c.map.ensures.source (YieldsList-from_filter_map _ f (YieldsList-from_range 0 273 273 (search rules) (omega arith)) c.filter_map.ensures.closure (λ x r q k. search (rules, tests)))) c.map.ensures.closure (λ x r q k. search (rules, tests)))
    (omega (arith, lines_listed is c.args.place c.requires (table_rights t), task_short is c.args.place c.requires (table_together t) (table_rights t)))
