-- Two lines joined, the first one's places on top. Assumes nothing.
use Rattle.std.specs.Prelude.{◌≡◌, ℕ, ◌+◌, ◌-◌, ◌≤◌, min, cond, List, Some, None, Ok, Err, MatchBool, Option, Result, nat_le, nat_lt}
use Rattle.line.specs.declared.refusal.Refusal.{Refusal}
use Rattle.line.specs.declared.refusal.Refusal.TheVariants.{NoRoom, OutOfRange}
use Rattle.line.specs.Meaning.{Meaning}
use Rattle.line.specs.Shows.{ShowDone}
use Rattle.line.specs.declared.Line.{Ghosts}
use Rattle.line.specs.declared.ExactLine.{Ghosts as Exacts}
use Rattle.line.specs.declared.joined.Joined.{Joined}
use Rattle.line.specs.declared.joined.Side.{Side}
use Rattle.line.specs.declared.joined.Side.TheVariants.{Top, Low}

-- Both lines' tasks, and no more than a line has room for.
abbrev pub joined : Meaning → Meaning → Meaning
joined a b = record { count = min (a.count + b.count) 16; at = λ k. cond (nat_lt k a.count) (a.at k) (b.at (k - a.count)) }

-- Where a place lies, under a first line of that many tasks, if it is not past both.
abbrev pub side_of : ℕ → ℕ → Option Side
side_of above place = cond (nat_le 16 place) None (cond (nat_lt place above) (Some (Top place)) (Some (Low (place - above))))

-- More than 16 tasks find no room.
abbrev pub join_answer : Meaning → Meaning → Result (Unit {0}) Refusal
join_answer a b = cond (nat_lt 16 (a.count + b.count)) (Err NoRoom) (Ok tt)

-- When two lines may be joined: both keep the limits and laws, and there is room.
pub record Joinable {X Y : Type 0} (a : Ghosts X) (b : Ghosts Y) (x : X) (y : Y) : Type 0 where
  pub top : a.lawful x
  pub low : b.lawful y
  pub few : (a.meaning x).count + (b.meaning y).count ≤ 16

-- The ghost members of a joined line from those of its parts.
abbrev pub joined_ghosts : {X Y : Type 0} → Ghosts X → Ghosts Y → Ghosts (Joined X Y)
joined_ghosts a b = record {
  meaning = λ j. joined (a.meaning j.0) (b.meaning j.1);
  lawful = λ j. Joinable a b j.0 j.1;
}

-- Showing a joined line's task makes of the sheet what the part that holds the task makes of it.
abbrev pub joined_leaves : {X Y : Type 0} → Ghosts X → Ghosts Y → Exacts X → Exacts Y → Joined X Y → ℕ → List ℕ → List ℕ → Type 0
joined_leaves a b xa xb j place was is =
    MatchBool (nat_lt place (a.meaning j.0).count) (xa.leaves j.0 place was is) (xb.leaves j.1 (place - (a.meaning j.0).count) was is)

-- The line on whose side a task lies shows it; a place past both is refused, and sheet and list stay.
abbrev pub SideShown : Meaning → Meaning → (ℕ → List ℕ → List ℕ → Type 0) → (ℕ → List ℕ → List ℕ → Type 0) → Option Side → ℕ → List ℕ → List ℕ → List ℕ → List ℕ → Result ℕ Refusal → Type 0
SideShown a b la lb (Some (Top k)) window sheet sheet' list list' r = ShowDone a (la k) k window sheet sheet' list list' r
SideShown a b la lb (Some (Low k)) window sheet sheet' list list' r = ShowDone b (lb k) k window sheet sheet' list list' r
SideShown a b la lb None window sheet sheet' list list' r = (r ≡ Err OutOfRange) × (sheet' ≡ sheet) × (list' ≡ list)
