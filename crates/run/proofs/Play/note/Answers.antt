use Rattle.std.proofs.Common.{refl, arith, rules}
use Rattle.run.proofs.Slots.{same_course}
use Rattle.run.proofs.Longest.{row_raised}
use Rattle.run.proofs.Play.note.Goals as goal

pub returns-then-mode-lt-MODES : goal.returns-then-mode-lt-MODES
returns-then-mode-lt-MODES c =
    let s = c.args.self.now in
    same_course _ _ _ _ _ _ _ _ refl refl (row_raised s.worst s.rows c.args.place c.args.mode c.args.took _ (omega (arith, c.requires)) c.if-mode-lt-MODES.true (search rules)) refl
