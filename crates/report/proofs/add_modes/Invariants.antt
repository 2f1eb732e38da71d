use Rattle.std.proofs.Common.{◌≡◌, ◌++◌, string_bytes}
use Rattle.bench.specs.State.{state}
use Rattle.report.specs.Words.{modes_text, bound_shown}
use Rattle.report.proofs.add_modes.Given as goal

abbrev pub invariant-loop-mode : goal.invariant-loop-mode
invariant-loop-mode l = string_bytes l.out ≡ string_bytes l.initial.out ++ modes_text l.task (bound_shown (state l.bench) l.task) l.mode-counter
