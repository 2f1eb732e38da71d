use Rattle.std.proofs.Common.{◌+◌, length, Some, Ok, refl, ap, arith}
use Rattle.std.proofs.lemmas.Result.{err_from_is_err_and}
use Rattle.table.specs.Tables.{items}
use Rattle.forms.specs.declared.form.Form.{Form}
use Rattle.forms.specs.Format.{spell}
use Rattle.save.proofs.Rights.{table_together, table_rights}
use Rattle.save.proofs.Short.{lines_short}
use Rattle.save.proofs.Spelling.{text_long, saved, room_there, room_lacks}
use Rattle.save.proofs.save.save_table.Goals as goal

pub overflow_add-extent : goal.overflow_add-extent
overflow_add-extent c =
    let t = c.args.table.now in
    omega (arith, c.measure-extent.ensures.len, c.form_len.ensures.short, lines_short (items t) (table_together t) (table_rights t))

pub returns-in_err-check_room : goal.returns-in_err-check_room
returns-in_err-check_room c =
    let p = err_from_is_err_and c.from_residual.result c.from_residual.ensures.1 in
    let q = room_lacks (c.measure-extent.result.len + c.form_len.result) (length c.args.out.now) c.in_err-check_room.field-0.0 c.in_err-check_room.ensures in
    let e = ap (λ (f : Form). length (spell f)) c.trailer-end.ensures in
    rw (p.1, p.2) (q.0, omega (arith, q.1, text_long (items c.args.table.now), c.measure-extent.ensures.len, c.form_len.ensures.is), refl)

pub returns : goal.returns
returns c =
    let is = items c.args.table.now in
    let end = c.write_line.result in
    saved is c.args.out.now c.write_tasks-at.new.out c.write_line.new.out c.write_tasks-at.result (Some end) (Ok end) c.trailer-end.result
    c.trailer-end.ensures
    (omega (arith, c.measure-extent.ensures.len, c.form_len.ensures.is, room_there (c.measure-extent.result.len + c.form_len.result) (length c.args.out.now) c.in_ok-check_room.ensures))
    c.write_tasks-at.ensures
    c.write_line.ensures
    refl
