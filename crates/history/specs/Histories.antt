-- Lists of calls on a bench, and the benches that they lead to. Each call does what its own contract says, in the same
-- words. Assumes nothing.
use Rattle.std.specs.Prelude.{◌≡◌, ℕ, Bool, true, false, ◌&&◌, List, [], ◌∷◌, is_ok, Result}
use Rattle.line.specs.declared.refusal.Refusal.{Refusal}
use Rattle.line.specs.declared.change.Change.{Change}
use Rattle.line.specs.declared.change.Change.TheVariants.{Lower, Widen, Cut}
use Rattle.line.specs.Answers.{Answer}
use Rattle.bench.specs.declared.bench.Bench.{Bench}
use Rattle.bench.specs.declared.ticket.Ticket.{Ticket}
use Rattle.bench.specs.declared.ticket.Drafting.{Drafting}
use Rattle.bench.specs.declared.ticket.Running.{Running}
use Rattle.bench.specs.State.{State, state, put_answer, after_put, OpenDone, mode_answer, after_mode, link_answer, after_link, CloseWith, after_abandon, take_answer, after_take, ChangeDone, after_judge}
use Rattle.bench.specs.Runs.{BeginDone, release_answer, after_release, advance_answer, after_advance, after_stop}
use Rattle.faults.specs.declared.LoadFault.{LoadFault}
use Rattle.store.specs.Loads.{LoadDone}

-- What is called, with all that is handed in: numbers, the number of a bench that a ticket bears, the lent work sheet,
-- and a text. Nothing is asked of any of them.
pub data Call : Type 0 where
  put : (number place cost period deadline : ℕ) → Call
  open_draft : (number place : ℕ) → Call
  add_mode : (ticket cost deadline : ℕ) → Call
  add_link : (ticket from to gap : ℕ) → Call
  close : (ticket : ℕ) (sheet : List ℕ) → Call
  abandon : (ticket : ℕ) → Call
  take : (number : ℕ) → Call
  lower : (number mode cost : ℕ) (sheet : List ℕ) → Call
  widen : (number from to gap : ℕ) (sheet : List ℕ) → Call
  cut : (number from to : ℕ) (sheet : List ℕ) → Call
  load : (text sheet : List ℕ) → Call
  judge : Call
  begin : Call
  release : (ticket number mode cost : ℕ) → Call
  advance : (ticket ticks : ℕ) → Call
  stop : (ticket : ℕ) → Call

-- A change of a task over a work sheet, accepted or refused.
abbrev pub Changes : State → ℕ → Change → List ℕ → Bool → State → Type 0
Changes s number c sheet ok s' = (r : Answer) × (sheet' : List ℕ) × (ok ≡ is_ok r) × ChangeDone s number c sheet r s' sheet'

-- The call takes a bench from s to s', and `ok` says whether it was accepted; a call that has no refusal always is.
abbrev pub Does : State → Call → Bool → State → Type 0
Does s (put number place cost period deadline) ok s' = (ok ≡ is_ok (put_answer s number place cost period deadline)) × (s' ≡ after_put s number place cost period deadline)
Does s (open_draft number place) ok s' = (r : Result (Ticket Drafting) Refusal) × (ok ≡ is_ok r) × OpenDone s number place r s'
Does s (add_mode ticket cost deadline) ok s' = (ok ≡ is_ok (mode_answer s ticket cost deadline)) × (s' ≡ after_mode s ticket cost deadline)
Does s (add_link ticket from to gap) ok s' = (ok ≡ is_ok (link_answer s ticket from to gap)) × (s' ≡ after_link s ticket from to gap)
Does s (close ticket sheet) ok s' = (r : Answer) × (sheet' : List ℕ) × (ok ≡ is_ok r) × CloseWith s ticket sheet r s' sheet'
Does s (abandon ticket) ok s' = (ok ≡ true) × (s' ≡ after_abandon s ticket)
Does s (take number) ok s' = (ok ≡ is_ok (take_answer s number)) × (s' ≡ after_take s number)
Does s (lower number mode cost sheet) ok s' = Changes s number (Lower mode cost) sheet ok s'
Does s (widen number from to gap sheet) ok s' = Changes s number (Widen from to gap) sheet ok s'
Does s (cut number from to sheet) ok s' = Changes s number (Cut from to) sheet ok s'
Does s (load text sheet) ok s' = (r : Result (Unit {0}) LoadFault) × (sheet' : List ℕ) × (ok ≡ is_ok r) × LoadDone s text sheet r s' sheet'
Does s judge ok s' = (ok ≡ true) × (s' ≡ after_judge s)
Does s begin ok s' = (r : Result (Ticket Running) Refusal) × (ok ≡ is_ok r) × BeginDone s r s'
Does s (release ticket number mode cost) ok s' = (ok ≡ is_ok (release_answer s ticket number mode cost)) × (s' ≡ after_release s ticket number mode cost)
Does s (advance ticket ticks) ok s' = (ok ≡ is_ok (advance_answer s ticket ticks)) × (s' ≡ after_advance s ticket ticks)
Does s (stop ticket) ok s' = (ok ≡ true) × (s' ≡ after_stop s ticket)

-- A call that was made, and whether it was accepted.
pub record Made : Type 0 where
  pub call : Call
  pub accepted : Bool

-- The calls lead from the bench a to the bench z, each from the bench that the one before has left.
pub data Leads : Bench → List Made → Bench → Type 0 where
  none : {a : Bench} → Leads a [] a
  then : {a b z : Bench} {c : Call} {ok : Bool} {rest : List Made} → Does (state a) c ok (state b) → Leads b rest z → Leads a (record { call = c; accepted = ok } ∷ rest) z

-- The edits after which a table may ask for more: those that put tasks in.
abbrev pub puts_in : Call → Bool
puts_in (put number place cost period deadline) = true
puts_in (close ticket sheet) = true
puts_in (load text sheet) = true
puts_in c = false

-- Of all edits only lower, widen, cut and take were accepted.
abbrev pub OnlyEases : List Made → Type 0
OnlyEases [] = Unit {0}
OnlyEases (m ∷ ms) = ((puts_in m.call && m.accepted) ≡ false) × OnlyEases ms
