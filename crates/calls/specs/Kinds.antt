-- The calls of each kind by their names and numbers. Assumes nothing.
use Rattle.std.specs.Prelude.{ℕ, List, [], ◌∷◌, None, codes, Option}
use Rattle.calls.specs.Names.{named}
use Rattle.calls.specs.declared.call.Call.{Call}
use Rattle.calls.specs.declared.call.Call.TheVariants as call
use Rattle.calls.specs.declared.call.Drafting.{Drafting}
use Rattle.calls.specs.declared.call.Drafting.TheVariants as drafting
use Rattle.calls.specs.declared.call.Edit.{Edit}
use Rattle.calls.specs.declared.call.Edit.TheVariants as edit
use Rattle.calls.specs.declared.call.Question.{Question}
use Rattle.calls.specs.declared.call.Question.TheVariants as question
use Rattle.calls.specs.declared.call.Running.{Running}
use Rattle.calls.specs.declared.call.Running.TheVariants as running

-- An edit.
abbrev pub edit_named : List ℕ → List ℕ → Option Edit
edit_named w [] = None
edit_named w (a ∷ []) = named w (codes "take") (edit.Take a) None
edit_named w (a ∷ (b ∷ [])) = None
edit_named w (a ∷ (b ∷ (c ∷ []))) = named w (codes "lower") (edit.Lower a b c) (named w (codes "cut") (edit.Cut a b c) None)
edit_named w (a ∷ (b ∷ (c ∷ (d ∷ [])))) = named w (codes "widen") (edit.Widen a b c d) None
edit_named w (a ∷ (b ∷ (c ∷ (d ∷ (e ∷ []))))) = named w (codes "put") (edit.Put a b c d e) None
edit_named w (a ∷ (b ∷ (c ∷ (d ∷ (e ∷ (f ∷ r)))))) = None

-- A call of a draft.
abbrev pub drafting_named : List ℕ → List ℕ → Option Drafting
drafting_named w [] = named w (codes "close") drafting.Close (named w (codes "abandon") drafting.Abandon None)
drafting_named w (a ∷ []) = None
drafting_named w (a ∷ (b ∷ [])) = named w (codes "open") (drafting.Open a b) (named w (codes "mode") (drafting.Mode a b) None)
drafting_named w (a ∷ (b ∷ (c ∷ []))) = named w (codes "link") (drafting.Link a b c) None
drafting_named w (a ∷ (b ∷ (c ∷ (d ∷ r)))) = None

-- A call of a run.
abbrev pub running_named : List ℕ → List ℕ → Option Running
running_named w [] = named w (codes "begin") running.Begin (named w (codes "stop") running.Stop None)
running_named w (a ∷ []) = named w (codes "advance") (running.Advance a) None
running_named w (a ∷ (b ∷ [])) = named w (codes "worst") (running.Worst a b) None
running_named w (a ∷ (b ∷ (c ∷ []))) = named w (codes "release") (running.Release a b c) None
running_named w (a ∷ (b ∷ (c ∷ (d ∷ r)))) = None

-- A question.
abbrev pub question_named : List ℕ → List ℕ → Option Question
question_named w [] = named w (codes "verdict") question.Verdict (named w (codes "sheet") question.Sheet (named w (codes "output") question.Output None))
question_named w (a ∷ []) = None
question_named w (a ∷ (b ∷ [])) = named w (codes "bound") (question.Bound a b) (named w (codes "most") (question.Most a b) None)
question_named w (a ∷ (b ∷ (c ∷ r))) = None

-- Any other call.
abbrev pub other_named : List ℕ → List ℕ → Option Call
other_named w [] = named w (codes "save") call.Save (named w (codes "judge") call.Judge (named w (codes "whole") call.Whole None))
other_named w (a ∷ []) = named w (codes "bench") (call.Bench a) (named w (codes "keep") (call.Keep a) (named w (codes "load") (call.Load a) None))
other_named w (a ∷ (b ∷ [])) = named w (codes "show") (call.Show a b) (named w (codes "walk") (call.Walk a b) None)
other_named w (a ∷ (b ∷ (c ∷ r))) = None
