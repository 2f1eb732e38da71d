-- A task of the table as a plain value. Assumes nothing.
use Rattle.modes.specs.Graphs.{plan}
use Rattle.table.specs.declared.make.Make.{Make as Made}
use Rattle.table.specs.declared.make.Make.TheVariants.{Sporadic, Angular}
use Rattle.table.specs.declared.make.Task.{Task}
use Rattle.table.specs.Items.{Make, Item, sporadic, angular}

abbrev pub make_of : Made → Make
make_of (Sporadic s) = sporadic s.cost s.period s.deadline
make_of (Angular a) = angular (plan a.graph)

abbrev pub item_of : Task → Item
item_of t = record { number = t.number; make = make_of t.make }
