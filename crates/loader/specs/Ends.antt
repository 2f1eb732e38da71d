-- Tasks are read in the order of their places. Assumes nothing.
use Rattle.std.specs.Prelude.{Bool, true, Some, None, Option, ◌==◌}
use Rattle.editor.specs.Drafts.{Outline}
use Rattle.editor.specs.Desks.{Desk}

abbrev pub last : Option Outline → Bool
last None = true
last (Some o) = o.place == 15

-- The draft, if one is open, goes to the last place.
abbrev pub appends : Desk → Bool
appends d = last d.draft
