use Rattle.text.specs.Readers.{at}
use Rattle.forms.proofs.Cutting.{word_bytes, word_past, word_token}
use Rattle.text.proofs.reader.Reader.word.Goals as goal

pub returns-in-Some : goal.returns-in-Some
returns-in-Some c =
    let s = at c.args.self.now in
    let here = c.rest-rest.ensures in
    let len = c.word_len-len.ensures.is in
    record { token = word_token s _ _ (word_bytes s _ _ here len) c.in-Some.ensures; moved = word_past s _ _ here len }

pub returns-in-None : goal.returns-in-None
returns-in-None c =
    let s = at c.args.self.now in
    let here = c.rest-rest.ensures in
    let len = c.word_len-len.ensures.is in
    record { token = word_token s _ _ (word_bytes s _ _ here len) c.in-None.ensures; moved = word_past s _ _ here len }
