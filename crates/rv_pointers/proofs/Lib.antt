pub mod Trees
pub mod Dispatching
pub mod Reaching
pub mod Pointing
