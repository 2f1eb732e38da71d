use Rattle.std.proofs.Common.{List, length, Result}
use Rattle.table.specs.Items.{Item}
use Rattle.forms.specs.Places.{rest_of}
use Rattle.text.specs.Readers.{at}
use Rattle.faults.specs.declared.LoadFault.{LoadFault}
use Rattle.loader.specs.Loaders.{progress, SheetAfter}
use Rattle.store.specs.Loads.{Loads, Reading}
use Rattle.store.proofs.load.read.Given as goal

-- Whatever comes of the text from here on comes of the whole text, and the sheet is as the closes so far leave it.
abbrev pub invariant-loop-reader : goal.invariant-loop-reader
invariant-loop-reader l =
    ((r : Result (List Item) LoadFault) → Loads (at l.reader) (progress l.loader) r → Reading l.text r)
    × SheetAfter (progress l.loader).desk.tasks l.initial.sheet l.sheet

abbrev pub decreases-loop-reader : goal.decreases-loop-reader
decreases-loop-reader l = length (rest_of (at l.reader))
