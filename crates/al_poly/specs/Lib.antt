pub mod Concrete
pub mod Written
pub mod Types
pub mod Rules
pub mod Instances
pub mod Answers
pub mod Closed
