use Rattle.std.proofs.Common.{rules}
use Rattle.editor.specs.Desks.{desk}
use Rattle.loader.proofs.Appending.{put_last}
use Rattle.loader.proofs.Loader.put.Goals as goal

pub returns : goal.returns
returns c = record {
  step = search rules;
  sheet = λ now first. put_last (desk c.args.self.now.editor) c.args.number c.args.cost c.args.period c.args.deadline (desk c.put.new.self) _
      c.in_ok-put.ensures.answer c.in_ok-put.ensures.after first now;
}
