use Rattle.std.proofs.Common.{length, sym, ap, arith, rules}
use Rattle.texts.proofs.Steps.{texts_more, texts_none}
use Rattle.texts.proofs.input.TextsIterator.next.Goals as goal

pub returns-clause-steps : goal.returns-clause-steps
returns-clause-steps c = texts_more c.args.self.now.rest.now (c.in_ok-text.text.now, c.in_ok-text.rest.now) (sym c.in_ok-text.ensures)

pub returns-clause-goes : goal.returns-clause-goes
returns-clause-goes c =
    let more = texts_more c.args.self.now.rest.now (c.in_ok-text.text.now, c.in_ok-text.rest.now) (sym c.in_ok-text.ensures) in
    record { on = λ _. (tt, tt, omega (arith, ap length more)); keeps = search rules; rests = search rules }

pub returns-in_err-text-clause-steps : goal.returns-in_err-text-clause-steps
returns-in_err-text-clause-steps c =
    let none = texts_none c.args.self.now.rest.now (search rules) in search rules
