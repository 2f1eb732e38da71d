-- Every task of either make, and every table, keeps the limits and laws. Assumes nothing.
use Rattle.std.specs.Prelude.{◌≡◌, ℕ, zero, suc, ◌<◌, List, [], ◌∷◌, map, length, get_or, Ok, vec_items, Result, slice_index_or}
use Rattle.std.proofs.Common.{sym, ap, subst, arith}
use Rattle.std.proofs.lemmas.List.{length-map}
use Rattle.line.specs.declared.refusal.Refusal.{Refusal}
use Rattle.line.specs.Shows.{show_answer, ShowDone}
use Rattle.line.specs.Joining.{show_part}
use Rattle.line.specs.Lawful.{Lawful, TaskLaws}
use Rattle.line.specs.Meaning.{sole}
use Rattle.angular.proofs.Laws.{angular_laws}
use Rattle.sporadic.proofs.Laws.{sporadic_laws}
use Rattle.table.specs.Items.{Item, task_of, line_of, blank, Leaves}
use Rattle.table.specs.Tables.{items, table_leaves}
use Rattle.table.specs.Tasks.{make_of, item_of}
use Rattle.table.specs.declared.make.Make.{Make}
use Rattle.table.specs.declared.make.Make.TheVariants.{Sporadic, Angular}
use Rattle.table.specs.declared.make.Task.{Task}
use Rattle.table.specs.declared.table.Table.{Table}

pub make_laws : (m : Make) → TaskLaws (task_of (make_of m))
make_laws (Sporadic s) = sporadic_laws s
make_laws (Angular a) = angular_laws a

pub make_lawful : (m : Make) → Lawful (sole (task_of (make_of m)))
make_lawful m = record { few = omega arith; each = λ k h. make_laws m }

each_task : (ts : List Task) (k : ℕ) → k < length (map item_of ts) → TaskLaws (task_of (get_or (map item_of ts) k blank).make)
each_task [] k h = absurd (omega arith)
each_task (t ∷ ts) zero h = make_laws t.make
each_task (t ∷ ts) (suc k) h = each_task ts k (omega arith)

pub table_lawful : (t : Table) → Lawful (line_of (items t))
table_lawful t = record {
  few = let m = length-map (vec_items t.tasks) item_of in let l = t.tasks.ok.0 in omega (arith, m, l, t.few);
  each = each_task (vec_items t.tasks);
}

-- What a task shows on its own, the table shows of it at its place.
pub shows_task : (is : List Item) (i : Item) (count place window : ℕ) (sheet sheet' list list' : List ℕ) (r : Result ℕ Refusal) (u : Unit {0})
    → Ok u ≡ show_answer count place window (length sheet) (length list)
    → count ≡ length is
    → i ≡ slice_index_or is place blank
    → ShowDone (sole (task_of i.make)) (Leaves i.make) 0 window sheet sheet' list list' r
    → ShowDone (line_of is) (table_leaves is place) place window sheet sheet' list list' r
shows_task is i count place window sheet sheet' list list' r u ok same e done =
    show_part (line_of is) (sole (task_of i.make)) (table_leaves is place) (Leaves i.make) place 0 window sheet sheet' list list' r
    (subst (λ n. show_answer n place window (length sheet) (length list) ≡ Ok tt) same (sym ok)) (omega arith) (omega arith)
    (ap (λ (x : Item). task_of x.make) e) (subst (λ (x : Item). Leaves x.make sheet sheet') e) done
