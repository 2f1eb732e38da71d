-- What comes of a text that is refused. Assumes nothing.
use Rattle.std.proofs.Common.{◌≡◌, ℕ, List, length, Ok, Err, string_bytes, Result, String, subst, inr, MatchResult, ◌≢◌}
use Rattle.std.specs.declared.alloc.Global.{Global}
use Rattle.line.specs.declared.refusal.Refusal.{Refusal}
use Rattle.line.specs.declared.refusal.Refusal.TheVariants.{NoMemory}
use Rattle.bench.specs.State.{State, fresh}
use Rattle.faults.specs.declared.LoadFault.{LoadFault}
use Rattle.store.specs.Loads.{Why}
use Rattle.report.specs.Words.{fault_text, ReportDone}

pub reports_fault : (text sheet : List ℕ) (s : State) (f : LoadFault) (r : Result (String Global) Refusal) → s ≡ fresh 1 → length sheet ≡ 16016 → Why s text sheet f
    → MatchResult r (λ o. (f.refusal ≢ NoMemory) × (string_bytes o ≡ fault_text f)) (λ e. e ≡ NoMemory) → ReportDone text r
reports_fault text sheet s f (Err e) new long w c = c
reports_fault text sheet s f (Ok o) new long w c = inr (f, sheet, long, subst (λ (x : State). Why x text sheet f) new w, c.0, c.1)
