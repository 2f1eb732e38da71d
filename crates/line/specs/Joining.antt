-- The laws of a joined line from those of its parts, and what it shows. Assumes nothing.
use Rattle.std.specs.Prelude.{◌≡◌, ℕ, ◌+◌, ◌-◌, ◌<◌, ◌≤◌, Bool, true, false, cond, List, length, Some, None, Ok, Err, MatchBool, Option, Result, nat_lt, refl}
use Rattle.std.proofs.Common.{sym, ap, subst, ◌∙◌, arith, ltb-true, ltb-false}
use Rattle.std.proofs.lemmas.Bool.{cond-true, cond-false, lt-ltb, le-ltb}
use Rattle.std.proofs.lemmas.Bool.Decides.{nat_tests}
use Rattle.line.specs.declared.refusal.Refusal.{Refusal}
use Rattle.line.specs.Meaning.{Meaning}
use Rattle.line.specs.Lawful.{Lawful, TaskLaws}
use Rattle.line.specs.Shows.{show_answer, ShowDone, Shown}
use Rattle.line.specs.Joins.{joined, side_of, SideShown}
use Rattle.line.specs.declared.joined.Side.{Side}
use Rattle.line.specs.declared.joined.Side.TheVariants.{Top, Low}

module _ (a b : Meaning) where
  each_joined : Lawful a → Lawful b → (k : ℕ) → k < a.count + b.count → (c : Bool) → nat_lt k a.count ≡ c → TaskLaws (cond c (a.at k) (b.at (k - a.count)))
  each_joined la lb k h true e = la.each k (ltb-true _ _ e)
  each_joined la lb k h false e = let past : a.count ≤ k = ltb-false _ _ e in lb.each (k - a.count) (omega arith)

  pub joined_lawful : Lawful a → Lawful b → Lawful (joined a b)
  joined_lawful la lb = record { few = omega arith; each = λ k lt. each_joined la lb k (omega arith) (nat_lt k a.count) refl }

-- What a line may show, another of as many tasks below a place may show too.
pub show_again : (count place window s l other k : ℕ) → show_answer count place window s l ≡ Ok tt → k ≤ place → k < other → show_answer other k window s l ≡ Ok tt
show_again count place window s l other k ok le lt = grind (arith, nat_tests)

-- What a part shows of its task k, the whole shows of its task at a place, where the two are the same task.
pub show_part : (m p : Meaning) (L P : List ℕ → List ℕ → Type 0) (place k window : ℕ) (sheet sheet' list list' : List ℕ) (r : Result ℕ Refusal)
    → show_answer m.count place window (length sheet) (length list) ≡ Ok tt
    → k ≤ place
    → k < p.count
    → p.at k ≡ m.at place
    → (P sheet sheet' → L sheet sheet')
    → ShowDone p P k window sheet sheet' list list' r
    → ShowDone m L place window sheet sheet' list list' r
show_part m p L P place k window sheet sheet' list list' (Ok n) ok le lt e leaves done =
    (ok, subst (λ t. Shown t window n list list') e done.1, leaves done.2)
show_part m p L P place k window sheet sheet' list list' (Err x) ok le lt e leaves done =
    let other = show_again m.count place window (length sheet) (length list) p.count k ok le lt in
    absurd (cc (other, done.0))

-- The first line's tasks are those of the joined line, and the second one's lie below them.
pub at_top : (a b : Meaning) (place : ℕ) → place < a.count → a.at place ≡ (joined a b).at place
at_top a b place h = sym (cond-true _ _ _ (lt-ltb place a.count h))

pub at_low : (a b : Meaning) (place : ℕ) → a.count ≤ place → b.at (place - a.count) ≡ (joined a b).at place
at_low a b place h = sym (cond-false _ _ _ (le-ltb place a.count h))

pub shows : (count place window s l : ℕ) → show_answer count place window s l ≡ Ok tt → (place < count) × (place < 16)
shows count place window s l ok = (grind (arith, nat_tests), grind (arith, nat_tests))

top_side : (above place k : ℕ) → Some (Top k) ≡ side_of above place → (k ≡ place) × (place < above)
top_side above place k e = (grind (arith, nat_tests), grind (arith, nat_tests))

low_side : (above place k : ℕ) → Some (Low k) ≡ side_of above place → (k ≡ place - above) × (above ≤ place)
low_side above place k e = (grind (arith, nat_tests), grind (arith, nat_tests))

past_side : (above place : ℕ) → None ≡ side_of above place → 16 ≤ place
past_side above place e = grind (arith, nat_tests)

module _ (a b : Meaning) (LA LB : ℕ → List ℕ → List ℕ → Type 0) (count place window : ℕ) (sheet sheet' list list' : List ℕ) (u : Unit {0})
    (ok : Ok u ≡ show_answer count place window (length sheet) (length list)) (same : count ≡ (joined a b).count) where
  abbrev Leaves : List ℕ → List ℕ → Type 0
  Leaves s t = MatchBool (nat_lt place a.count) (LA place s t) (LB (place - a.count) s t)

  may : show_answer (joined a b).count place window (length sheet) (length list) ≡ Ok tt
  may = subst (λ n. show_answer n place window (length sheet) (length list) ≡ Ok tt) same (sym ok)

  pub shows_top : (k : ℕ) (r : Result ℕ Refusal) → Some (Top k) ≡ side_of a.count place → ShowDone a (LA k) k window sheet sheet' list list' r → ShowDone (joined a b) Leaves place window sheet sheet' list list' r
  shows_top k r e done =
      let t = top_side a.count place k e in
      show_part (joined a b) a Leaves (LA k) place k window sheet sheet' list list' r may (omega (arith, t.0)) (omega (arith, t.0, t.1))
      (ap a.at t.0 ∙ at_top a b place t.1)
      (λ h. subst (λ x. MatchBool x (LA place sheet sheet') (LB (place - a.count) sheet sheet')) (sym (lt-ltb place a.count t.1)) (subst (λ x. LA x sheet sheet') t.0 h))
      done

  pub shows_low : (k : ℕ) (r : Result ℕ Refusal) → Some (Low k) ≡ side_of a.count place → ShowDone b (LB k) k window sheet sheet' list list' r → ShowDone (joined a b) Leaves place window sheet sheet' list list' r
  shows_low k r e done =
      let t = low_side a.count place k e in
      let p = shows (joined a b).count place window (length sheet) (length list) may in
      show_part (joined a b) b Leaves (LB k) place k window sheet sheet' list list' r may (omega (arith, t.0)) (omega (arith, t.0, t.1, p.0))
      (ap b.at t.0 ∙ at_low a b place t.1)
      (λ h. subst (λ x. MatchBool x (LA place sheet sheet') (LB (place - a.count) sheet sheet')) (sym (le-ltb place a.count t.1)) (subst (λ x. LB x sheet sheet') t.0 h))
      done

  pub shows_side : (side : Option Side) (r : Result ℕ Refusal) → side ≡ side_of a.count place → SideShown a b LA LB side window sheet sheet' list list' r → ShowDone (joined a b) Leaves place window sheet sheet' list list' r
  shows_side (Some (Top k)) r e done = shows_top k r e done
  shows_side (Some (Low k)) r e done = shows_low k r e done
  shows_side None r e done = absurd (omega (arith, past_side a.count place e, (shows (joined a b).count place window (length sheet) (length list) may).1))
