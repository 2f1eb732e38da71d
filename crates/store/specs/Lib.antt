pub mod Loads
pub use Rattle.faults.specs.Faults
pub use Rattle.loader.specs.Ends
pub use Rattle.loader.specs.Progress
pub use Rattle.loader.specs.Loaders
