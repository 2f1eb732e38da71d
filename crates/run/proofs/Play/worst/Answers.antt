use Rattle.std.proofs.Common.{Ok, sym, ap, ◌∙◌, arith, rules, tests}
use Rattle.line.proofs.Rows.{cell_at}
use Rattle.run.proofs.Play.worst.Goals as goal

pub returns : goal.returns
returns g c =
    let s = c.args.self.now in
    let high = c.if-place-ge-PLACES.false in
    let few = c.if-mode-ge-MODES.false in
    ap Ok (sym (cell_at s.worst s.rows _ _ 0 (omega arith) (omega arith))) ∙ search (rules, tests)
