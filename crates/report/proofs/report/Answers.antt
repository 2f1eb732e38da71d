use Rattle.std.proofs.Common.{rules}
use Rattle.bench.specs.State.{state}
use Rattle.report.proofs.Adding.{reports_fault}
use Rattle.report.proofs.report.Goals as goal

pub returns : goal.returns
returns c =
    reports_fault c.args.text.now c.deref_mut.result.now (state c.in_ok-bench.bench) c.in-Err.fault c.refused.result
    c.in_ok-bench.ensures.new (search rules) c.in-Err.ensures.done.0 c.refused.ensures
