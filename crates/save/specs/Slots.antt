-- The slots of a task. Slot 0 has its first line; of an angular task the 16 slots after it have the modes, and
-- the 256 slots after those the pairs of modes, by from and by to. A slot may have no line. Assumes nothing.
use Rattle.std.specs.Prelude.{ℕ, ◌-◌, ◌/◌, ◌%◌, Bool, true, false, cond, List, Some, None, Option, ◌==◌, nat_lt, slice_index_or}
use Rattle.std.specs.Option.{option_map, unwrap_or}
use Rattle.line.specs.Meaning.{Task, task_at, modes_in, cost_in, deadline_in, gap_in}
use Rattle.table.specs.Items.{Item, blank, is_angular, number_at, line_of}
use Rattle.forms.specs.declared.form.Form.{Form}
use Rattle.forms.specs.declared.form.Form.TheVariants as form

-- The first line of a task of that number, angular or not.
abbrev pub first_in : ℕ → Bool → Task → Form
first_in number true t = form.Angular number
first_in number false t = form.Sporadic number (cost_in t 0) (unwrap_or (gap_in t 0 0) 0) (deadline_in t 0)

-- The line of a mode, if there is that mode.
abbrev pub mode_in : Task → ℕ → Option Form
mode_in t m = cond (nat_lt m (modes_in t)) (Some (form.Mode (cost_in t m) (deadline_in t m))) None

-- The line of the pair of modes in cell c, if they are linked.
abbrev pub link_in : Task → ℕ → Option Form
link_in t c = option_map (form.Link (c / 16) (c % 16)) (gap_in t (c / 16) (c % 16))

-- The line in a slot, if there is one.
abbrev pub slot_in : ℕ → Bool → Task → ℕ → Option Form
slot_in number crank t slot =
    cond (slot == 0) (Some (first_in number crank t))
    (cond crank (cond (nat_lt 16 slot) (link_in t (slot - 17)) (mode_in t (slot - 1))) None)

-- The line in a slot of the task at a place.
unfoldable pub slot_of : List Item → ℕ → ℕ → Option Form
slot_of is place slot = slot_in (number_at is place) (is_angular (slice_index_or is place blank).make) (task_at (line_of is) place) slot
