use Rattle.std.proofs.Common.{◌≡◌, ◌*◌, ◌≤◌, length, take}
use Rattle.table.specs.Tables.{items}
use Rattle.save.specs.Texts.{forms_of, spelled, last_place}
use Rattle.save.proofs.measure.measure.Given as goal

abbrev pub invariant-loop-place : goal.invariant-loop-place
invariant-loop-place l =
    (l.len ≡ length (spelled (forms_of (take l.place (items l.table))))) × (l.last ≡ last_place (take l.place (items l.table))) × (l.len ≤ 14469 * l.place)
