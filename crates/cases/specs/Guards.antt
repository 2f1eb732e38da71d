-- What a guarded task means. Assumes nothing.
use Rattle.std.specs.Prelude.{ℕ, ◌+◌, ◌*◌, ◌/◌, cond, ◌==◌}
use Rattle.line.specs.Meaning.{Task}
use Rattle.sporadic.specs.Tasks.{sporadic_task}

-- What a guarded task says that it asks for in a window: in an empty one nothing, else a job for each whole period
-- in the window and one more. In a window of whole periods that is one job more than can come.
abbrev pub guarded_most : ℕ → ℕ → ℕ → ℕ
guarded_most cost period w = cond (w == 0) 0 (cost * (w / period + 1))

-- A guarded task has the one mode of a sporadic task, which follows itself after a period.
abbrev pub guarded_task : ℕ → ℕ → ℕ → Task
guarded_task cost period deadline = record {
  graph = (sporadic_task cost period deadline).graph;
  most = guarded_most cost period;
}
