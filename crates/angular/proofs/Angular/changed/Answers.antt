use Rattle.std.proofs.Common.{length, ◌∙◌, subst}
use Rattle.modes.specs.Plans.{Plan, graph_of}
use Rattle.angular.specs.Sheets.{Filled, Kept}
use Rattle.angular.proofs.Angular.changed.Goals as goal

pub returns : goal.returns
returns c =
    let e = c.changed.ensures.plan in
    let sheet = c.new.new.sheet in
    record {
      same = c.new.ensures.same ∙ e;
      filled = subst (λ (p : Plan). Filled (graph_of p) sheet) e c.new.ensures.filled;
      kept = subst (λ (p : Plan). Kept (length p.modes) c.args.sheet.now sheet) e c.new.ensures.kept;
    }
