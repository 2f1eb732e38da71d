use Rattle.std.proofs.Common.{◌≡◌, ◌++◌, string_bytes}
use Rattle.bench.specs.State.{state}
use Rattle.report.specs.Words.{tasks_text}
use Rattle.report.proofs.add_tasks.Given as goal

abbrev pub invariant-loop-place : goal.invariant-loop-place
invariant-loop-place l = string_bytes l.out ≡ string_bytes l.initial.out ++ tasks_text (state l.bench) l.place
