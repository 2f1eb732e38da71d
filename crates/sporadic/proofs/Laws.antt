-- Every sporadic task keeps the laws of a task. Assumes nothing.
use Rattle.line.specs.Lawful.{TaskLaws}
use Rattle.sporadic.specs.Tasks.{sporadic_task}
use Rattle.sporadic.specs.declared.Sporadic.{Sporadic}
use Rattle.sporadic.specs.Sporadics.{numbers_laws}

pub sporadic_laws : (s : Sporadic) → TaskLaws (sporadic_task s.cost s.period s.deadline)
sporadic_laws s = numbers_laws s.cost s.period s.deadline s.some s.fits s.near s.first s.often
