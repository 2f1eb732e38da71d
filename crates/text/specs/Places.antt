-- Places in a text, and where a reader stands. Assumes nothing.
pub use Rattle.forms.specs.Places.{At, start, rest_of, forward, next_line, next_is}
pub use Rattle.text.specs.Readers.{at}
