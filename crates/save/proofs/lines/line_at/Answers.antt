use Rattle.std.proofs.Common.{sym}
use Rattle.table.specs.Tables.{items}
use Rattle.save.proofs.Slots.{slot_first, slot_alone, slot_link, slot_mode}
use Rattle.save.proofs.lines.line_at.Goals as goal

pub returns-then-slot-eq0 : goal.returns-then-slot-eq0
returns-then-slot-eq0 c = slot_first (items c.args.table.now) c.args.place c.args.slot c.first_line.result c.if-slot-eq0.true c.first_line.ensures

pub returns-then-not-is_angular_at : goal.returns-then-not-is_angular_at
returns-then-not-is_angular_at c =
    slot_alone (items c.args.table.now) c.args.place c.args.slot c.if-slot-eq0.false (sym c.if-not-is_angular_at.ensures)

pub returns-then-slot-gt-MODES : goal.returns-then-slot-gt-MODES
returns-then-slot-gt-MODES c =
    slot_link (items c.args.table.now) c.args.place c.args.slot c.link_line.result c.if-slot-eq0.false (sym c.if-not-is_angular_at.ensures) c.if-slot-gt-MODES.true c.link_line.ensures

pub returns-else-slot-gt-MODES : goal.returns-else-slot-gt-MODES
returns-else-slot-gt-MODES c =
    slot_mode (items c.args.table.now) c.args.place c.args.slot c.mode_line.result c.if-slot-eq0.false (sym c.if-not-is_angular_at.ensures) c.if-slot-gt-MODES.false c.mode_line.ensures
