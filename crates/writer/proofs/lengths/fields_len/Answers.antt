use Rattle.std.proofs.Common.{length, rules, ◌∙◌, arith}
use Rattle.std.proofs.lemmas.Iterator.{YieldsList-from_slice, YieldsList-from_map}
use Rattle.std.proofs.lemmas.Iterator.Consumers.{sum_by_from_yields_List}
use Rattle.forms.specs.Format.{field}
use Rattle.writer.proofs.Writing.{fields_sum, fields_short}
use Rattle.writer.proofs.lengths.fields_len.Goals as goal

pub returns : goal.returns
returns c =
    let ns = c.args.numbers.now in
    let s =
    sum_by_from_yields_List (λ n. length (field n)) ns c.map.result c.sum.result c.sum.ensures.ran
    (YieldsList-from_map _ (λ n. length (field n)) (YieldsList-from_slice ns (search rules)) c.map.ensures.closure (λ x r q k. search rules)) in
    let e = s ∙ fields_sum ns in
    record { is = e; short = omega (arith, e, fields_short ns (λ i. (c.type_inv.numbers i).fits), c.requires) }
