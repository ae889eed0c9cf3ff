pub mod Laid
pub mod Gaps
mod Found
mod Kept
mod Sound
mod Calls
