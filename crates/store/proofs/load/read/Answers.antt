use Rattle.std.proofs.Common.{◌≡◌, ◌<◌, Bool, List, length, Result, ◌∙◌, inl, arith, rules}
use Rattle.std.proofs.lemmas.Result.{err_from_is_err_and}
use Rattle.std.proofs.lemmas.Bool.Decides.{nat_tests}
use Rattle.forms.specs.Places.{rest_of}
use Rattle.text.specs.Readers.{at}
use Rattle.faults.specs.Faults.{placed}
use Rattle.loader.specs.Loaders.{progress, NextDone}
use Rattle.store.proofs.Following.{raised, passed, line_refused, trailer_read, line_read, text_ended}
use Rattle.table.specs.Items.{Item}
use Rattle.faults.specs.declared.LineFault.{LineFault}
use Rattle.faults.specs.declared.LoadFault.{LoadFault}
use Rattle.store.specs.Loads.{Loads, Reading}
use Rattle.store.proofs.load.read.Goals as goal
use Rattle.store.proofs.load.read.Goals.{Else-is_end}

pub returns-in_err-is_end : goal.returns-in_err-is_end
returns-in_err-is_end c =
    let s = at c.loop-reader.reader in
    let t = at c.next.new.reader in
    let some : 0 < length (rest_of s) = grind (arith, nat_tests, c.is_done.ensures, c.loop-reader-test.true) in
    let m =
    raised (λ (r : Result Bool LineFault). NextDone s (progress c.loop-reader.loader) r t (progress c.next.new.self)) c.next.result c.map_err.result (λ e. placed e s.line s.pos)
    c.next.ensures.step c.map_err.ensures.cases (λ e d k. search rules) c.in_err-is_end.field-0.0 c.in_err-is_end.was
    in
    let p = err_from_is_err_and c.from_residual-in_err-is_end.result c.from_residual-in_err-is_end.ensures.1 in
    rw (p.1) (line_refused c.args.text.now s (progress c.loop-reader.loader) c.loop-reader.invariant.0 m.0 t (progress c.next.new.self) some m.1 p.0 (p.2 ∙ m.2))

pub returns-then-is_end : goal.returns-then-is_end
returns-then-is_end c =
    let r = passed c.next.result c.map_err.result _ c.map_err.ensures.cases c.in_ok-is_end.is_end c.in_ok-is_end.was in
    trailer_read c.args.text.now (at c.loop-reader.reader) (progress c.loop-reader.loader) c.loop-reader.invariant.0 (at c.next.new.reader) (progress c.next.new.self)
    c.in_ok-is_end.is_end c.if-is_end.true (search rules) c.last.result c.last.ensures c.args.sheet.now c.next.new.sheet (search rules)

read_on : (c : Else-is_end) → ((r : Result (List Item) LoadFault) → Loads (at c.next.new.reader) (progress c.next.new.self) r → Reading c.args.text.now r) × (length (rest_of (at c.next.new.reader)) < length (rest_of (at c.loop-reader.reader)))
read_on c =
    let r = passed c.next.result c.map_err.result _ c.map_err.ensures.cases c.in_ok-is_end.is_end c.in_ok-is_end.was in
    line_read c.args.text.now (at c.loop-reader.reader) (progress c.loop-reader.loader) c.loop-reader.invariant.0 (at c.next.new.reader) (progress c.next.new.self)
    c.in_ok-is_end.is_end c.if-is_end.false (search rules)

pub loop-reader-smaller : goal.loop-reader-smaller
loop-reader-smaller c = (read_on c).1

pub loop-reader-preserved : goal.loop-reader-preserved
loop-reader-preserved c =
    let r = passed c.next.result c.map_err.result _ c.map_err.ensures.cases c.in_ok-is_end.is_end c.in_ok-is_end.was in
    ((read_on c).0, search rules)

pub returns : goal.returns
returns c =
    let s = at c.loop-reader.reader in
    let none : length (rest_of s) ≡ 0 = grind (arith, nat_tests, c.is_done.ensures, c.loop-reader-test.false) in
    inl (text_ended c.args.text.now s (progress c.loop-reader.loader) c.loop-reader.invariant.0 none c.no_trailer.result c.no_trailer.ensures)
