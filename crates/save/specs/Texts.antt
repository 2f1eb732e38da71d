-- The text of a table. Assumes nothing.
use Rattle.std.specs.Prelude.{ℕ, suc, ◌+◌, ◌/◌, ◌%◌, List, [], ◌∷◌, ◌++◌, map, length, Some, None, Option}
use Rattle.modes.specs.declared.graph.Mode.{Mode}
use Rattle.table.specs.Items.{Item, Make, sporadic, angular}
use Rattle.forms.specs.declared.form.Form.{Form}
use Rattle.forms.specs.declared.form.Form.TheVariants as form
use Rattle.forms.specs.Format.{spell}

-- The line of a mode.
abbrev pub mode_form : Mode → Form
mode_form m = form.Mode m.cost m.deadline

-- The lines of the links among gaps of which the first is in cell c. The gap from a to b is in cell a × 16 + b,
-- so the links come by from and by to.
abbrev pub links_from : ℕ → List (Option ℕ) → List Form
links_from c [] = []
links_from c (None ∷ gs) = links_from (suc c) gs
links_from c (Some g ∷ gs) = form.Link (c / 16) (c % 16) g ∷ links_from (suc c) gs

-- The lines of a task of that number: one of a sporadic task; of an angular one its first line, its modes in
-- order, and its links.
abbrev pub make_forms : ℕ → Make → List Form
make_forms number (sporadic cost period deadline) = form.Sporadic number cost period deadline ∷ []
make_forms number (angular plan) = form.Angular number ∷ (map mode_form plan.modes ++ links_from 0 plan.gaps)

abbrev pub item_forms : Item → List Form
item_forms i = make_forms i.number i.make

-- The lines of a table without the trailer, task by task in the order of their places.
abbrev pub forms_of : List Item → List Form
forms_of [] = []
forms_of (i ∷ is) = item_forms i ++ forms_of is

-- The spellings of lines, joined.
abbrev pub spelled : List Form → List ℕ
spelled [] = []
spelled (f ∷ fs) = spell f ++ spelled fs

-- The byte place, counted from 0, where the last task's first line begins; 0 where there is no task.
abbrev pub last_place : List Item → ℕ
last_place [] = 0
last_place (i ∷ []) = 0
last_place (i ∷ (j ∷ is)) = length (spelled (item_forms i)) + last_place (j ∷ is)

-- The trailer counts the tasks and has the last one's place.
abbrev pub trailer_of : List Item → Form
trailer_of is = form.End (length is) (last_place is)

-- The text of a table: the lines of its tasks, and the trailer.
unfoldable pub text_of : List Item → List ℕ
text_of is = spelled (forms_of is) ++ spell (trailer_of is)
