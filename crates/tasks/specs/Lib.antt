pub use Rattle.line.specs.Answers
pub use Rattle.line.specs.Lighter
pub use Rattle.modes.specs.Plans
pub use Rattle.modes.specs.Graphs
pub use Rattle.angular.specs.Greatest
pub use Rattle.angular.specs.Best
pub use Rattle.angular.specs.Sheets
pub mod Makes
