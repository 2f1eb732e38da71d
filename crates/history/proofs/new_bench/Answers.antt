use Rattle.history.proofs.Timely.{made_in_time}
use Rattle.history.proofs.Lasting.{made_to_last}
use Rattle.history.proofs.new_bench.Goals as goal

pub returns-clause-in_time : goal.returns-clause-in_time
returns-clause-in_time c = made_in_time c.args.id c.new.result c.new.ensures

pub returns-clause-stays_fit : goal.returns-clause-stays_fit
returns-clause-stays_fit c = made_to_last c.new.result
