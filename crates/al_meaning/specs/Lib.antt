pub mod Words
pub mod Places
pub mod Shown
pub mod Items
pub mod Parts
pub mod Here
pub mod Calls
pub mod Evaluate
pub mod Execute
pub mod Step
pub mod Weight
pub mod Meaning
pub mod Tasks
pub mod Told
pub mod Meant
pub mod After
pub mod Laws
mod Examples
