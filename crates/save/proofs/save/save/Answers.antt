use Rattle.std.proofs.Common.{List, subst}
use Rattle.table.specs.Items.{Item}
use Rattle.table.specs.Tables.{items}
use Rattle.save.specs.Saves.{SaveDone}
use Rattle.save.proofs.Rights.{table_together, table_rights}
use Rattle.save.proofs.Short.{text_short}
use Rattle.save.proofs.Back.{reads_back, reads_only}
use Rattle.save.proofs.Reloading.{loads_back, saved_once}
use Rattle.save.proofs.save.save.Goals as goal

pub returns : goal.returns
returns c =
    let t = c.args.bench.now.editor.table in
    let a = table_together t in
    let b = table_rights t in
    record {
      done = subst (λ (is : List Item). SaveDone is c.args.out.now c.save_table.new.out c.save_table.result) c.table.ensures c.save_table.ensures;
      back = reads_back (items t) a b;
      only = reads_only (items t) a b;
      loads = loads_back (items t) (reads_only (items t) a b) (text_short (items t) a b);
      once = saved_once (items t);
      short = text_short (items t) a b;
    }
