use Rattle.std.proofs.Common.{vec_items, ◌∙◌, rules}
use Rattle.table.specs.Tables.{items}
use Rattle.bench.specs.State.{state}
use Rattle.store.proofs.Following.{loaded}
use Rattle.store.proofs.Once.{reads_once}
use Rattle.store.proofs.load.load.Goals as goal

pub returns : goal.returns
returns c =
    let t = c.in_ok-table.ensures in
    record {
      done = loaded (state c.args.bench.now) c.args.text.now c.args.sheet.now (items c.in_ok-table.table) (state c.install.new.self) (vec_items c.in_ok-copy.copy) (vec_items c.in_ok-table.filled) c.copy_from_slice.new.self
          c.in_ok-may_load.ensures c.in_ok-copy.ensures t.0.0 t.0.1 c.install.ensures.after (c.copy_from_slice.ensures.after ∙ c.deref.ensures.value);
      once = reads_once c.args.text.now;
    }

pub returns-in_err-may_load : goal.returns-in_err-may_load
returns-in_err-may_load c = record { done = search rules; once = reads_once c.args.text.now }

pub returns-in_err-copy : goal.returns-in_err-copy
returns-in_err-copy c = record { done = search rules; once = reads_once c.args.text.now }

pub returns-in_err-table : goal.returns-in_err-table
returns-in_err-table c = record { done = search rules; once = reads_once c.args.text.now }
