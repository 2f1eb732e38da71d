use Rattle.std.proofs.Common.{rules}
use Rattle.std.proofs.iter.runs.Made.{chains}
use Rattle.run.proofs.Slots.{late_found}
use Rattle.run.proofs.due.Moment.first_late.Goals as goal

pub returns : goal.returns
returns g c = late_found (g.L.Line.meaning c.args.self.now.line.now) c.args.self.now.clock c.args.jobs.now _ (search (rules, chains))
