-- Changes of a task after which it asks for no more than before: what they may be. Assumes nothing.
use Rattle.std.specs.Prelude.{◌≡◌, ℕ, zero, suc, ◌<◌, Bool, true, false, cond, not, ◌&&◌, ◌||◌, is_some, Some, None, Ok, Err, Decides, Option, ◌==◌, nat_le, nat_lt}
use Rattle.line.specs.declared.refusal.Refusal.TheVariants.{OutOfRange, NotThere, NoLinkOut, NotReduced}
use Rattle.line.specs.declared.change.Change.{Change}
use Rattle.line.specs.declared.change.Change.TheVariants.{Lower, Widen, Cut}
use Rattle.line.specs.Answers.{Answer}
use Rattle.line.specs.Meaning.{Graph, cost_of, gap_of}

-- The numbers of a change: modes are from 0 to 15, a cost is from 1 to 1,000, and a gap from 1 to 100,000.
abbrev pub change_numbers : Change → Answer
change_numbers (Lower mode cost) = cond (nat_lt mode 16 && (nat_lt 0 cost && nat_le cost 1000)) (Ok tt) (Err OutOfRange)
change_numbers (Widen from to gap) = cond (nat_lt from 16 && (nat_lt to 16 && (nat_lt 0 gap && nat_le gap 100000))) (Ok tt) (Err OutOfRange)
change_numbers (Cut from to) = cond (nat_lt from 16 && nat_lt to 16) (Ok tt) (Err OutOfRange)

-- Whether the mode b is another than `to`, and may follow `from`.
abbrev pub goes_else : Graph → ℕ → ℕ → ℕ → Bool
goes_else G from to b = not (b == to) && is_some (gap_of G from b)

-- Whether one of the first k modes does.
abbrev pub leads_else : Graph → ℕ → ℕ → ℕ → Bool
leads_else G from to zero = false
leads_else G from to (suc k) = goes_else G from to k || leads_else G from to k

-- The same of all modes, as a law: there is a link from `from` to some mode other than `to`.
abbrev pub LeadsElse : Graph → Type 0
LeadsElse G = (from to : ℕ) → Decides (leads_else G from to G.modes) ((b : ℕ) × (b < G.modes) × (((b ≡ to) → ⊥) × (is_some (gap_of G from b) ≡ true)))

-- A mode that is there gets a smaller cost.
abbrev pub lower_answer : Graph → ℕ → ℕ → Answer
lower_answer G mode cost = cond (nat_le G.modes mode) (Err NotThere) (cond (nat_le (cost_of G mode) cost) (Err NotReduced) (Ok tt))

-- A gap that stands gets larger.
abbrev pub widen_answer : Option ℕ → ℕ → Answer
widen_answer None gap = Err NotThere
widen_answer (Some g) gap = cond (nat_le gap g) (Err NotReduced) (Ok tt)

-- A link that stands is struck out where another one leaves its mode.
abbrev pub cut_answer : Option ℕ → Bool → Answer
cut_answer None other = Err NotThere
cut_answer (Some g) other = cond other (Ok tt) (Err NoLinkOut)

-- What a task with that graph answers to a change.
abbrev pub change_answer : Graph → Change → Answer
change_answer G (Lower mode cost) = lower_answer G mode cost
change_answer G (Widen from to gap) = widen_answer (gap_of G from to) gap
change_answer G (Cut from to) = cut_answer (gap_of G from to) (leads_else G from to G.modes)
