use Rattle.std.proofs.Common.{Err, rules}
use Rattle.text.specs.Readers.{at}
use Rattle.forms.specs.Lines.{form_of}
use Rattle.forms.specs.Keywords.{key_of}
use Rattle.forms.proofs.Readings.{reads_form, key_found, key_lacking}
use Rattle.text.proofs.reader.Reader.form.Goals as goal

pub returns-in_ok-try_from-in-Word : goal.returns-in_ok-try_from-in-Word
unfolding form_of
returns-in_ok-try_from-in-Word c =
    let k = key_found (key_of c.in-Word.bytes.now) c.in_ok-try_from-in-Word.field-0 (search rules) in
    record { step = search rules; reads = reads_form (at c.args.self.now) c.body.result (at c.body.new.self) (search rules) }

pub returns-in_err-try_from-in-Word : goal.returns-in_err-try_from-in-Word
unfolding form_of
returns-in_err-try_from-in-Word c =
    let k = key_lacking (key_of c.in-Word.bytes.now) (record {}) (search rules) in
    record { step = search rules; reads = reads_form (at c.args.self.now) c.from_residual.result (at c.word.new.self) (search rules) }

pub returns-in-Number : goal.returns-in-Number
unfolding form_of
returns-in-Number c = record { step = search rules; reads = reads_form (at c.args.self.now) (Err (record {})) (at c.word.new.self) (search rules) }
