-- What a table holds. Assumes nothing.
use Rattle.std.specs.Prelude.{ℕ, List, map, vec_items, slice_index_or}
use Rattle.table.specs.declared.table.Table.{Table}
use Rattle.table.specs.Items.{Item, blank, Leaves}
use Rattle.table.specs.Tasks.{item_of}

-- The tasks of a table by place.
abbrev pub items : Table → List Item
items t = map item_of (vec_items t.tasks)

-- What showing the task at a place makes of the work sheet.
abbrev pub table_leaves : List Item → ℕ → List ℕ → List ℕ → Type 0
table_leaves is place = Leaves (slice_index_or is place blank).make
