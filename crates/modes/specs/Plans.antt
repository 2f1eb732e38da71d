-- What a graph of modes holds, as a plain value, and what its calls answer and leave. Assumes nothing.
use Rattle.std.specs.Prelude.{◌≡◌, ℕ, zero, suc, ◌+◌, ◌*◌, ◌<◌, ◌≤◌, Bool, true, false, cond, not, ◌&&◌, ◌||◌, List, [], ◌∷◌, ◌++◌, length, get_or, replicate, is_some, is_ok, Some, None, Ok, Err, Option, ◌==◌, nat_le, nat_lt, slice_index_or, slice_set}
use Rattle.line.specs.declared.refusal.Refusal.TheVariants.{OutOfRange, CostAboveDeadline, NoRoom, NotThere, Linked, GapBelowDeadline, NoLinkOut}
use Rattle.line.specs.Meaning.{Graph}
use Rattle.line.specs.declared.change.Change.{Change}
use Rattle.line.specs.declared.change.Change.TheVariants.{Lower, Widen, Cut}
use Rattle.line.specs.Answers.{Answer, and_then}
use Rattle.modes.specs.declared.graph.Mode.{Mode}

-- The modes in their order, and the gap from a to b, if there is one, at a × 16 + b.
pub record Plan : Type 0 where
  pub modes : List Mode
  pub gaps : List (Option ℕ)

-- What is read past the last mode.
abbrev pub blank : Mode
blank = record { cost = 0; deadline = 0 }

-- The graph that a plan draws.
abbrev pub graph_of : Plan → Graph
graph_of p = record {
  modes = length p.modes;
  cost = λ m. (get_or p.modes m blank).cost;
  deadline = λ m. (get_or p.modes m blank).deadline;
  gap = λ a b. slice_index_or p.gaps (a * 16 + b) None;
}

-- No mode, and no gap.
abbrev pub empty_plan : Plan
empty_plan = record { modes = []; gaps = replicate 256 None }

-- The mode of a number, if there is one.
abbrev pub mode_at : Plan → ℕ → Option Mode
mode_at p m = cond (nat_lt m (length p.modes)) (Some (slice_index_or p.modes m blank)) None

-- The gap between two modes, if both are there and they are linked.
abbrev pub gap_at : Plan → ℕ → ℕ → Option ℕ
gap_at p a b = cond (nat_lt a (length p.modes)) (cond (nat_lt b (length p.modes)) ((graph_of p).gap a b) None) None

-- The numbers of a mode: cost and deadline are from 1 to 1,000, and the cost is at most the deadline.
abbrev pub mode_numbers : ℕ → ℕ → Answer
mode_numbers cost deadline =
    cond (cost == 0 || (nat_lt 1000 cost || (deadline == 0 || nat_lt 1000 deadline))) (Err OutOfRange)
    (cond (nat_lt deadline cost) (Err CostAboveDeadline) (Ok tt))

-- The numbers of a link: modes are from 0 to 15, and the gap is from 1 to 100,000.
abbrev pub link_numbers : ℕ → ℕ → ℕ → Answer
link_numbers from to gap = cond (nat_lt 15 from || (nat_lt 15 to || (gap == 0 || nat_lt 100000 gap))) (Err OutOfRange) (Ok tt)

-- A 17th mode finds no room.
abbrev pub add_answer : Plan → ℕ → ℕ → Answer
add_answer p cost deadline = and_then (mode_numbers cost deadline) (cond (nat_le 16 (length p.modes)) (Err NoRoom) (Ok tt))

-- A mode is added after the last one; a refusal changes nothing.
abbrev pub with_mode : Plan → ℕ → ℕ → Plan
with_mode p cost deadline = record { modes = p.modes ++ record { cost = cost; deadline = deadline } ∷ []; gaps = p.gaps }

abbrev pub after_add : Plan → ℕ → ℕ → Plan
after_add p cost deadline = cond (is_ok (add_answer p cost deadline)) (with_mode p cost deadline) p

-- Both modes are there, the pair is not linked, and the gap is at least the deadline of the mode that it leaves.
abbrev pub link_answer : Plan → ℕ → ℕ → ℕ → Answer
link_answer p from to gap =
    and_then (link_numbers from to gap)
    (cond (nat_le (length p.modes) from || nat_le (length p.modes) to) (Err NotThere)
    (cond (is_some ((graph_of p).gap from to)) (Err Linked)
    (cond (nat_lt gap ((graph_of p).deadline from)) (Err GapBelowDeadline) (Ok tt))))

-- The plan with another gap between two modes, or with none.
abbrev pub with_link : Plan → ℕ → ℕ → Option ℕ → Plan
with_link p from to gap = record { modes = p.modes; gaps = slice_set p.gaps (from * 16 + to) gap }

-- The pair is linked by the gap; a refusal changes nothing.
abbrev pub with_gap : Plan → ℕ → ℕ → ℕ → Plan
with_gap p from to gap = record { modes = p.modes; gaps = slice_set p.gaps (from * 16 + to) (Some gap) }

abbrev pub after_link : Plan → ℕ → ℕ → ℕ → Plan
after_link p from to gap = cond (is_ok (link_answer p from to gap)) (with_gap p from to gap) p

-- The plan with another cost of a mode.
abbrev pub with_cost : Plan → ℕ → ℕ → Plan
with_cost p mode cost = record { modes = slice_set p.modes mode (record { cost = cost; deadline = (graph_of p).deadline mode }); gaps = p.gaps }

-- The plan after a change: a mode has another cost, a link another gap, or a link is struck out.
abbrev pub changed_plan : Change → Plan → Plan
changed_plan (Lower mode cost) p = with_cost p mode cost
changed_plan (Widen from to gap) p = with_link p from to (Some gap)
changed_plan (Cut from to) p = with_link p from to None

-- Whether one of the first k modes may follow the mode a.
abbrev pub leads_out : Graph → ℕ → ℕ → Bool
leads_out G a zero = false
leads_out G a (suc k) = is_some (G.gap a k) || leads_out G a k

-- Whether each of the first k modes has a link out.
abbrev pub all_lead_out : Graph → ℕ → Bool
all_lead_out G zero = true
all_lead_out G (suc k) = leads_out G k G.modes && all_lead_out G k

-- There is a mode, and each has a link out.
abbrev pub whole_answer : Plan → Answer
whole_answer p = cond (length p.modes == 0 || not (all_lead_out (graph_of p) (length p.modes))) (Err NoLinkOut) (Ok tt)

-- The same, as a law: there is a mode, and from each mode there is a gap to some mode.
pub record Whole (G : Graph) : Type 0 where
  pub some_mode : 1 ≤ G.modes
  pub leads : (a : ℕ) → a < G.modes → (b : ℕ) × (b < G.modes) × (is_some (G.gap a b) ≡ true)

-- What a graph of modes keeps at all times, whole or not. The limits of a mode: 1 ≤ cost ≤ deadline ≤ 1,000.
abbrev pub right_mode : Mode → Bool
right_mode m = nat_lt 0 m.cost && (nat_le m.cost m.deadline && nat_le m.deadline 1000)

-- A gap lies between two modes, is at least the deadline of the one that it leaves and at most 100,000.
abbrev pub right_gap : List Mode → ℕ → ℕ → Option ℕ → Bool
right_gap modes a b None = true
right_gap modes a b (Some g) = nat_lt a (length modes) && (nat_lt b (length modes) && (nat_le (get_or modes a blank).deadline g && nat_le g 100000))

abbrev pub RightModes : List Mode → Type 0
RightModes modes = (m : ℕ) → m < length modes → right_mode (slice_index_or modes m blank) ≡ true

abbrev pub RightGaps : List Mode → List (Option ℕ) → Type 0
RightGaps modes gaps = (a b : ℕ) → b < 16 → right_gap modes a b (slice_index_or gaps (a * 16 + b) None) ≡ true
