use Rattle.std.proofs.Common.{◌+◌, ◌-◌, take, set, sym, ap, ◌∙◌, add-one, arith, rules}
use Rattle.std.proofs.Math.Seq.{take-suc-set}
use Rattle.std.proofs.lemmas.List.{take_all, length-set}
use Rattle.text.specs.Readers.{at}
use Rattle.forms.specs.Lines.{numbers_of, done}
use Rattle.forms.proofs.Gathering.{behind, one_more, all_read}
use Rattle.text.proofs.reader.Reader.numbers.Goals as goal

pub loop-number-preserved : goal.loop-number-preserved
loop-number-preserved g c =
    let l = c.loop-number in
    let v = c.in_ok-number.field-0 in
    let h = c.loop-number-test.true in
    let more = one_more (take l.number-index l.number-items) g.row.N l.number-index (omega arith) (at l.self) (at c.field.new.self) v (search rules) in
    let put = ap (λ i. take i (set l.number-items l.number-index v)) (add-one l.number-index) ∙ take-suc-set l.number-items l.number-index v (omega (arith, l.invariant.0)) in (
      length-set l.number-items l.number-index v ∙ l.invariant.0,
      ap (λ xs. behind xs (numbers_of (g.row.N - (l.number-index + 1)) (at c.field.new.self))) put ∙ sym more ∙ l.invariant.1,
    )

pub returns : goal.returns
returns g c =
    let l = c.loop-number in
    let all = all_read (take l.number-index l.number-items) g.row.N l.number-index (omega arith) (at l.self) (at c.line_end.new.self) (search rules) in
    ap (λ xs. done xs (at c.line_end.new.self)) (sym (take_all l.number-index l.number-items (omega (arith, l.invariant.0)))) ∙ sym all ∙ l.invariant.1
