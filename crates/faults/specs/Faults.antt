-- Where a refusal of load comes from. Assumes nothing.
use Rattle.std.specs.Prelude.{List, ℕ, ◌++◌, codes, decimal}
use Rattle.line.specs.Refusals.{number_of}
use Rattle.line.specs.declared.refusal.Refusal.{Refusal}
use Rattle.faults.specs.declared.Layer.{Layer}
use Rattle.faults.specs.declared.Layer.TheVariants as layer
use Rattle.faults.specs.declared.LineFault.{LineFault}
use Rattle.faults.specs.declared.LoadFault.{LoadFault}

-- The word for a layer.
abbrev pub layer_word : Layer → List ℕ
layer_word layer.Text = codes "text"
layer_word layer.Table = codes "table"
layer_word layer.Task = codes "task"

-- mode, link or close refuses.
abbrev pub in_task : Refusal → LineFault
in_task e = record { refusal = e; layer = layer.Task }

-- put or open refuses, or load before any line.
abbrev pub in_table : Refusal → LineFault
in_table e = record { refusal = e; layer = layer.Table }

-- A line has no form where it stands, or the trailer is wrong.
abbrev pub in_text : Refusal → LineFault
in_text e = record { refusal = e; layer = layer.Text }

-- A refusal at a line and its byte place.
abbrev pub placed : LineFault → ℕ → ℕ → LoadFault
placed e line place = record { refusal = e.refusal; line = line; place = place; layer = e.layer }

-- A refused load in words: its number, line, byte place and layer.
abbrev pub fault_words : LoadFault → List ℕ
fault_words f =
    codes "refused " ++ (decimal (number_of f.refusal) ++ (codes " " ++ (decimal f.line ++ (codes " " ++ (decimal f.place ++ (codes " " ++ layer_word f.layer))))))
