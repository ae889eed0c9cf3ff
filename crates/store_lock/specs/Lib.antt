pub mod Alike
pub mod Memo
pub mod Rule
pub mod Steps
pub mod Locks
pub mod Passes
pub mod Lent
pub mod Ends
