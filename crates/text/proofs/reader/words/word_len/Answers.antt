use Rattle.std.proofs.Common.{◌≤◌, length, arith}
use Rattle.std.specs.List.{prefix_len}
use Rattle.std.proofs.lemmas.List.Sums.{prefix_len-le-length}
use Rattle.std.proofs.lemmas.Grind.{common_steps}
use Rattle.forms.specs.Words.{word_len, in_word}
use Rattle.text.proofs.reader.words.word_len.Goals as goal

pub returns-clause-is : goal.returns-clause-is
unfolding word_len
returns-clause-is c =
    let n : prefix_len in_word c.args.text.now ≤ length c.args.text.now = prefix_len-le-length in_word c.args.text.now in
    grind (arith, common_steps)
