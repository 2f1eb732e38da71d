use Rattle.std.proofs.Common.{◌∙◌, rules}
use Rattle.std.proofs.lemmas.Iterator.{YieldsList-from_slice}
use Rattle.std.proofs.lemmas.Iterator.Consumers.{YieldsList-from_enumerate, fold_from_yields_List}
use Rattle.run.specs.Steps.{undue}
use Rattle.run.proofs.Slots.{undue_fold}
use Rattle.run.proofs.due.Moment.undue_all.Goals as goal

pub returns : goal.returns
returns g c =
    let m = g.L.Line.meaning c.args.self.now.line.now in
    let now = c.args.self.now.clock in
    fold_from_yields_List _ (λ n q. undue m now q.0 q.1 n) c.args.limit _ c.fold.ensures.ran (YieldsList-from_enumerate (YieldsList-from_slice c.args.jobs.now cc) c.enumerate.ensures.count) (λ a x b q k. search rules)
    ∙ undue_fold m now 0 c.args.jobs.now c.args.limit
