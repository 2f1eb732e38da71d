-- What an editor holds of a draft. Assumes nothing.
use Rattle.std.specs.Fn.{FnOnceReturnsAtMut}
use denote.Param.Members.{Once}
use denote.Ref.{MutBor}
use Rattle.std.specs.Prelude.{◌≡◌, ℕ, Bool, true, ◌&&◌, List, is_ok, Some, None, Err, vec_len, Option, Result, ◌==◌}
use Rattle.modes.specs.Plans.{Plan}
use Rattle.modes.specs.Graphs.{plan}
use Rattle.table.specs.Numbers.{task_numbers}
use Rattle.table.specs.Items.{Item, enter_answer}
use Rattle.modes.specs.declared.graph.ModeGraph.{ModeGraph}
use Rattle.line.specs.declared.refusal.Refusal.{Refusal}
use Rattle.line.specs.declared.refusal.Refusal.TheVariants.{NoTicket}
use Rattle.editor.specs.declared.editor.Sketch.{Sketch}

-- A draft's task has a number in range and may enter the table, and there is room for its row.
abbrev pub held : Option Sketch → List Item → Bool
held None is = true
held (Some s) is = is_ok (task_numbers s.number s.place) && (is_ok (enter_answer is s.number true) && vec_len s.row == 1001)

-- The draft as a plain value: the task's number and place, and its modes and gaps so far.
pub record Outline : Type 0 where
  pub number : ℕ
  pub place : ℕ
  pub plan : Plan

abbrev pub outline : Sketch → Outline
outline s = record { number = s.number; place = s.place; plan = plan s.graph }

-- A change of a draft's graph: it answers as the change does, and the draft has the graph that the change leaves; where
-- there is no draft it is refused.
abbrev pub GraphChanged : {F : Type 0} → Once F (MutBor ModeGraph × Unit {0}) (Result (Unit {0}) Refusal × (MutBor ModeGraph × Unit {0})) → F → Option Sketch → Result (Unit {0}) Refusal → Option Sketch → Type 0
GraphChanged call change None answer after = (answer ≡ Err NoTicket) × (after ≡ None)
GraphChanged call change (Some s) answer after = (graph : ModeGraph) × FnOnceReturnsAtMut call change s.graph answer graph × (after ≡ Some (record s { graph = graph }))
