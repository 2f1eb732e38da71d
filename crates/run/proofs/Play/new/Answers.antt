use Rattle.run.proofs.Ruling.{tick_by_rules}
use Rattle.run.proofs.Running.{runs_by_rules}
use Rattle.run.proofs.Play.new.Goals as goal

pub returns-clause-tick : goal.returns-clause-tick
returns-clause-tick c = tick_by_rules

pub returns-clause-runs : goal.returns-clause-runs
returns-clause-runs c = runs_by_rules
