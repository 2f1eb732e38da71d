use Rattle.std.proofs.Common.{Ok, rules}
use Rattle.bench.specs.State.{state}
use Rattle.bench.proofs.Easing.{take_eases}
use Rattle.bench.proofs.bench.Bench.take.Goals as goal

pub returns-clause-eases : goal.returns-clause-eases
returns-clause-eases c =
    take_eases (state c.args.self.now) (state c.forget_verdict.new.self) c.args.number (Ok tt) (search rules) (search rules)
