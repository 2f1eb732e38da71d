pub mod Readers
pub mod Places
pub mod Words
pub use Rattle.forms.specs.Format
pub use Rattle.forms.specs.Numbers
pub use Rattle.forms.specs.Keywords
pub use Rattle.forms.specs.Lines
pub use Rattle.forms.specs.Reads
