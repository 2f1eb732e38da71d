-- The saved text loads as the tasks that it was saved from, and what was loaded saves as one text. Assumes nothing.
use Rattle.std.proofs.Common.{◌≡◌, ℕ, ◌≤◌, List, length, take, drop, Ok, Err, sym, ap, ◌∙◌, inl, inr, arith}
use Rattle.std.proofs.lemmas.Bool.{cond-false, le-ltb}
use Rattle.line.specs.declared.refusal.Refusal.TheVariants.{OutOfRange}
use Rattle.line.specs.Answers.{Answer, and_then, sheet_answer}
use Rattle.table.specs.Items.{Item}
use Rattle.editor.specs.Desks.{with_tasks}
use Rattle.bench.specs.State.{State, edited, install_answer}
use Rattle.store.specs.Loads.{load_answer}
use Rattle.store.proofs.Following.{refilled_whole}
use Rattle.save.specs.Texts.{text_of}
use Rattle.save.specs.Saves.{SaveDone, ReadsOnly, LoadsBack, SavedOnce}

-- Nothing is refused before the first line.
accepted : (s : State) (bytes cells : ℕ) → bytes ≤ 65535 → sheet_answer cells ≡ Ok tt → install_answer s ≡ Ok tt → load_answer s bytes cells ≡ Ok tt
accepted s bytes cells short sheet free =
    ap (λ (x : Answer). and_then x (and_then (sheet_answer cells) (install_answer s))) (cond-false _ (Err OutOfRange) (Ok tt) (le-ltb _ _ short))
    ∙ ap (λ (x : Answer). and_then x (install_answer s)) sheet ∙ free

pub loads_back : (is : List Item) → ReadsOnly is → length (text_of is) ≤ 65535 → LoadsBack is
loads_back is only short s s' sheet sheet' (Ok u) room free done =
    let same = only (Ok done.tasks) done.reads in
    let e : done.tasks ≡ is = cc (same) in
    done.after ∙ ap (λ (xs : List Item). edited s (with_tasks s.desk xs)) e
loads_back is only short s s' sheet sheet' (Err f) room free (inl x, same, kept) =
    let may = accepted s (length (text_of is)) (length sheet) short room free in
    let z : ◌≡◌ {A = ℕ} 0 1 = cc (may, x.1) in
    absurd (omega arith)
loads_back is only short s s' sheet sheet' (Err f) room free (inr (inl x), same, kept) = let e = only (Err f) x.1 in let z : ◌≡◌ {A = ℕ} 0 1 = cc (e) in absurd (omega arith)
loads_back is only short s s' sheet sheet' (Err f) room free (inr (inr x), same, kept) = x

-- What a save of those tasks wrote.
written : (is js : List Item) (was now : List ℕ) (n : ℕ) → js ≡ is → SaveDone js was now (Ok n) → take n now ≡ text_of is
written is js was now n same done = ap (take n) done.1 ∙ refilled_whole n (text_of js) (drop n was) (sym done.0) ∙ ap text_of same

pub saved_once : (is : List Item) → SavedOnce is
saved_once is s s' t t' text text' sheet sheet' cells cells' was now was' now' n n' loads loads' same same' saves saves' =
    (written is s'.desk.tasks was now n same saves, written is t'.desk.tasks was' now' n' same' saves')
