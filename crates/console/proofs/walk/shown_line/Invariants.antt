use Rattle.std.proofs.Common.{◌≡◌, ◌++◌, string_bytes}
use Rattle.console.specs.Words.{modes_words}
use Rattle.console.proofs.walk.shown_line.Given as goal

abbrev pub invariant-loop-mode : goal.invariant-loop-mode
invariant-loop-mode l = string_bytes l.line ≡ string_bytes l.initial.line ++ modes_words l.walk l.mode-index
