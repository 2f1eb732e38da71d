use Rattle.std.proofs.Common.{length, ap, ◌∙◌, rules}
use Rattle.std.proofs.iter.runs.Sources.{range_runs_back}
use Rattle.modes.specs.Graphs.{plan}
use Rattle.angular.specs.Sheets.{cell_at}
use Rattle.angular.proofs.Offers.{top_taken}
use Rattle.angular.proofs.show.FilledSheet.start.Goals as goal

pub returns-clause-top : goal.returns-clause-top
returns-clause-top c =
    let s = c.args.self.now.sheet in
    let run = c.max_by_key.ensures.runs in
    let back = c.rev.ensures.runs run.0 run.0.seen run.1 in
    top_taken run.0 back.0 _ _ (length (plan s.graph.now).modes) (λ k. cell_at s.cells.now k c.args.w) c.args.self.now.some (λ a r f' k. search rules)
    run.2 back.2 (ap (λ r. r.start) back.1) (ap (λ r. r.end) back.1 ∙ c.len.ensures) (range_runs_back back.0 back.0.seen) c.max_by_key.result run.3 _ c.unwrap_or.ensures
