use Rattle.std.proofs.Common.{map, vec_items, ap, ◌∙◌, arith}
use Rattle.std.proofs.lemmas.List.{length-map}
use Rattle.table.specs.Items.{apart, angulars}
use Rattle.table.specs.Tables.{items}
use Rattle.table.specs.Tasks.{item_of}
use Rattle.table.proofs.Changing.{items_removed, apart_removed, angulars_removed}
use Rattle.table.proofs.Reading.{item_there}
use Rattle.table.proofs.table.Table.remove_at.Goals as goal

pub invariant_of-self : goal.invariant_of-self
invariant_of-self c =
    let t = c.args.self.now in
    let r = c.remove.ensures in
    let e = ap (map item_of) r.items ∙ items_removed (vec_items t.tasks) c.args.place in
    record {
      few = omega (arith, r.len, t.few);
      room = omega (arith, r.capacity, t.room);
      distinct = ap apart e ∙ apart_removed (items t) c.args.place t.distinct;
      crank = omega (arith, ap angulars e, angulars_removed (items t) c.args.place, t.crank);
    }

pub returns : goal.returns
returns c =
    let ts = vec_items c.args.self.now.tasks in
    let r = c.remove.ensures in
    record {
      task = item_there ts c.args.place c.remove.result (omega (arith, c.requires, length-map ts item_of)) r.value;
      others = ap (map item_of) r.items ∙ items_removed ts c.args.place;
    }
