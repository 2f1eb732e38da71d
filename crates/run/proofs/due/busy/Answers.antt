use Rattle.std.proofs.Common.{rules, tests}
use Rattle.std.proofs.iter.runs.Made.{chains}
use Rattle.run.proofs.Slots.{busy_found}
use Rattle.run.proofs.due.busy.Goals as goal

pub returns : goal.returns
returns c = busy_found c.args.jobs.now _ (search (rules, chains, tests))
