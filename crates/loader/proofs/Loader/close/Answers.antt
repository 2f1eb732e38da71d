use Rattle.std.proofs.Common.{length, sym, ◌∙◌}
use Rattle.editor.specs.Desks.{desk}
use Rattle.loader.proofs.Appending.{closed_step, closed_sheet}
use Rattle.loader.proofs.Loader.close.Goals as goal

pub returns-in_ok-close : goal.returns-in_ok-close
returns-in_ok-close c =
    let l = c.args.self.now in
    let e = c.in_ok-close.ensures in
    record {
      step = closed_step (desk l.editor) l.last (length c.args.sheet.now) (desk c.close.new.self) e.0 e.1;
      sheet = closed_sheet l.editor (desk c.close.new.self) c.args.sheet.now c.close.new.sheet (sym c.is_open.ensures ∙ c.if-is_open.true) l.ordered e.1 e.2;
    }
