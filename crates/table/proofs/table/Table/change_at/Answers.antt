use Rattle.std.proofs.Common.{◌≡◌, ℕ, ◌+◌, ◌<◌, Bool, true, cond, List, map, length, get_or, is_ok, Ok, vec_items, vec_len, vec_capacity, ap, ◌∙◌, subst, arith}
use Rattle.std.specs.List.{insert, remove}
use Rattle.std.proofs.lemmas.List.{length-map}
use Rattle.std.proofs.lemmas.Bool.{cond-true}
use Rattle.line.specs.Meaning.{task_at}
use Rattle.line.specs.Changes.{change_answer}
use Rattle.line.specs.declared.change.Change.{Change}
use Rattle.table.specs.Items.{Item, line_of, apart, angulars, changed_make, changed_at, Leaves}
use Rattle.table.specs.Tables.{items}
use Rattle.table.specs.Tasks.{make_of, item_of}
use Rattle.table.specs.declared.make.Make.{Make}
use Rattle.table.specs.declared.make.Task.{Task}
use Rattle.table.specs.declared.table.Table.{Table}
use Rattle.table.proofs.Changing.{change_there, items_changed, apart_changed, angulars_changed}
use Rattle.table.proofs.Reading.{item_there}
use Rattle.table.proofs.table.Table.change_at.Goals as goal

-- The task that is changed is there.
inside : (t : Table) (place : ℕ) (x : Change) → change_answer (task_at (line_of (items t)) place).graph x ≡ Ok tt → (place < length (vec_items t.tasks)) × (place < vec_len t.tasks)
inside t place x may =
    let h = change_there (items t) place x may in
    let m = length-map (vec_items t.tasks) item_of in
    let l = t.tasks.ok.0 in
    (omega (arith, h, m), omega (arith, h, m, l))

-- There is room to put it back, and so the tasks are as they are to be.
put_back : (t : Table) (place : ℕ) (x : Change) → change_answer (task_at (line_of (items t)) place).graph x ≡ Ok tt
    → (gone after : List Task) (len cap : ℕ) (old : Task) (m : Make) (b : Bool)
    → old ≡ get_or (vec_items t.tasks) place old → make_of m ≡ changed_make x (make_of old.make)
    → gone ≡ remove (vec_items t.tasks) place → len + 1 ≡ vec_len t.tasks → cap ≡ vec_capacity t.tasks
    → after ≡ cond b (insert gone place (record { number = old.number; make = m })) gone → (len < cap → b ≡ true)
    → (map item_of after ≡ changed_at (items t) place x) × (b ≡ true)
put_back t place x may gone after len cap old m b value make out less same back room =
    let done = room (omega (arith, less, same, t.few, t.room)) in
    (items_changed (vec_items t.tasks) gone after place old m x b (inside t place x may).0 value make out back done, done)

pub invariant_of-self : goal.invariant_of-self
invariant_of-self c =
    let t = c.args.self.now in
    let r = c.remove-number.ensures in
    let i = c.insert.ensures in
    let p =
    put_back t c.args.place c.args.change.change c.requires.may (vec_items c.remove-number.new.self) (vec_items c.insert.new.self) (vec_len c.remove-number.new.self) (vec_capacity c.remove-number.new.self)
    c.remove-number.result c.changed-make.result (is_ok c.insert.result) r.value c.changed-make.ensures.make r.items r.len r.capacity i.items i.succeeds in
    let n = i.len ∙ cond-true (is_ok c.insert.result) _ (vec_len c.remove-number.new.self) p.1 in
    record {
      few = omega (arith, n, r.len, t.few);
      room = omega (arith, i.capacity, r.capacity, t.room);
      distinct = ap apart p.0 ∙ apart_changed (items t) c.args.place c.args.change.change t.distinct;
      crank = omega (arith, ap angulars p.0, angulars_changed (items t) c.args.place c.args.change.change, t.crank);
    }

pub returns : goal.returns
returns c =
    let t = c.args.self.now in
    let r = c.remove-number.ensures in
    let i = c.insert.ensures in
    let p =
    put_back t c.args.place c.args.change.change c.requires.may (vec_items c.remove-number.new.self) (vec_items c.insert.new.self) (vec_len c.remove-number.new.self) (vec_capacity c.remove-number.new.self)
    c.remove-number.result c.changed-make.result (is_ok c.insert.result) r.value c.changed-make.ensures.make r.items r.len r.capacity i.items i.succeeds in
    let e = item_there (vec_items t.tasks) c.args.place c.remove-number.result (inside t c.args.place c.args.change.change c.requires.may).0 r.value in
    record {
      items = p.0;
      leaves = subst (λ (i : Item). Leaves (changed_make c.args.change.change i.make) c.args.sheet.now c.changed-make.new.sheet) e c.changed-make.ensures.leaves;
    }
