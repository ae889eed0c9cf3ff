pub mod Closed
mod Ends
mod Sense
mod Going
