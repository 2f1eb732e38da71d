use Rattle.std.proofs.Common.{length, ap, arith, rules}
use Rattle.calls.specs.Lists.{read}
use Rattle.calls.proofs.Steps.{calls_more, calls_none}
use Rattle.calls.proofs.list.CallsIterator.next.Goals as goal

pub returns-then-is_empty-clause-steps : goal.returns-then-is_empty-clause-steps
returns-then-is_empty-clause-steps c =
    let none = calls_none c.args.self.now.rest.now (search rules) in (none, none)

pub returns-clause-steps : goal.returns-clause-steps
returns-clause-steps c = calls_more c.args.self.now.rest.now (read c.first_call-first.result) (search rules) c.first_call-first.ensures

pub returns-clause-goes : goal.returns-clause-goes
returns-clause-goes c =
    let more = calls_more c.args.self.now.rest.now (read c.first_call-first.result) (search rules) c.first_call-first.ensures in
    record { on = λ _. (tt, tt, omega (arith, ap length more)); keeps = search rules; rests = search rules }
