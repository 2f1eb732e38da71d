use Rattle.cases.proofs.Worked.{all_worked}
use Rattle.cases.proofs.examples.worked_examples.Goals as goal

pub returns-clause-worked : goal.returns-clause-worked
returns-clause-worked c = all_worked
