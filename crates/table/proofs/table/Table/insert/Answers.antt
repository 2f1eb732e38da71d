use Rattle.std.proofs.Common.{◌≡◌, ℕ, ◌<◌, List, min, true, map, Ok, Err, Result, is_ok, vec_items, vec_len, vec_capacity, sym, ap, ◌∙◌, arith}
use Rattle.std.specs.List.{insert}
use Rattle.std.proofs.lemmas.List.{length-map}
use Rattle.std.proofs.lemmas.Bool.{cond-true, false≢true}
use Rattle.table.specs.Items.{Item, enters, entered, InsertDone}
use Rattle.table.specs.Tasks.{item_of}
use Rattle.table.specs.Tables.{items}
use Rattle.table.specs.declared.make.Task.{Task}
use Rattle.table.specs.declared.table.Table.{Table}
use Rattle.table.proofs.Entering.{Told, told, still_apart, still_few_angulars}
use Rattle.table.proofs.Reading.{items_inserted}
use Rattle.table.proofs.table.Table.insert.Goals as goal

facts : (t : Table) (task : Task) → enters (items t) (item_of task) ≡ true → Told (items t) (item_of task) × (vec_len t.tasks < vec_capacity t.tasks)
facts t task e =
    let h = told (items t) (item_of task) t.crank e in
    let m = length-map (vec_items t.tasks) item_of in
    let l = t.tasks.ok.0 in
    (h, omega (arith, h.few, m, l, t.room))

pub invariant_of-self : goal.invariant_of-self
invariant_of-self c =
    let t = c.args.self.now in
    let f = facts t c.args.task (sym c.takes.ensures ∙ c.if-not-takes.false) in
    let m = length-map (vec_items t.tasks) item_of in
    let l = t.tasks.ok.0 in
    let n = c.insert.ensures.len in
    record {
      few = grind (arith, n, f.0.few, m, l);
      room = omega (arith, c.insert.ensures.capacity, t.room);
      distinct = still_apart (vec_items t.tasks) (vec_items c.insert.new.self) c.min-at.result c.args.task (is_ok c.insert.result) c.insert.ensures.items f.0 t.distinct;
      crank = still_few_angulars (vec_items t.tasks) (vec_items c.insert.new.self) c.min-at.result c.args.task (is_ok c.insert.result) c.insert.ensures.items f.0 t.crank;
    }

-- What is put in where there is room is in.
put_in : (is is' : List Item) (place : ℕ) (i : Item) (r : Result (Unit {0}) Task) → is_ok r ≡ true → enters is i ≡ true → is' ≡ entered is place i → InsertDone is place i is' item_of r
put_in is is' place i (Ok u) ok may e = (may, e)
put_in is is' place i (Err x) ok may e = absurd (false≢true ok)

pub returns : goal.returns
returns c =
    let t = c.args.self.now in
    let ts = vec_items t.tasks in
    let may = sym c.takes.ensures ∙ c.if-not-takes.false in
    let room : is_ok c.insert.result ≡ true = c.insert.ensures.succeeds (facts t c.args.task may).1 in
    let at = c.min-at.ensures ∙ ap (min c.args.place) (c.len.ensures ∙ t.tasks.ok.0 ∙ sym (length-map ts item_of)) in
    put_in (items t) _ c.args.place (item_of c.args.task) c.map_err.result (c.map_err.ensures.variant ∙ room) may
    (ap (map item_of) (c.insert.ensures.items ∙ cond-true _ _ ts room) ∙ items_inserted ts c.min-at.result c.args.task ∙ ap (λ i. insert (map item_of ts) i (item_of c.args.task)) at)
