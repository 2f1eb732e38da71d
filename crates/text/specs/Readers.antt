-- What a reader and a token mean. Assumes nothing.
use Rattle.forms.specs.Places.{At}
use Rattle.forms.specs.Words.{Seen, word, number}
use Rattle.text.specs.declared.reader.Reader.{Reader}
use Rattle.text.specs.declared.reader.Token.{Token}
use Rattle.text.specs.declared.reader.Token.TheVariants.{Word, Number}

-- Where a reader stands.
abbrev pub at : Reader → At
at r = record { text = r.text.now; line = r.line; pos = r.pos }

-- What a token shows.
abbrev pub seen : Token → Seen
seen (Word p b) = word p b.now
seen (Number p b v) = number p b.now v
