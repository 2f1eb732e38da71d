-- Words of a text, and what a token shows. Assumes nothing.
pub use Rattle.forms.specs.Words.{in_word, word_len, Seen, word, number, word_at, by_number, token_at, past_word}
pub use Rattle.text.specs.Readers.{seen}
