-- What the two makes of task mean. Assumes nothing.
pub use Rattle.line.specs.Meaning.{sole}
pub use Rattle.sporadic.specs.Tasks.{releases, sporadic_task, sporadic_answer}
pub use Rattle.angular.specs.Tasks.{angular_task}
