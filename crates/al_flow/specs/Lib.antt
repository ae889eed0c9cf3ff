pub mod Firsts
pub mod Targets
pub mod Around
pub mod Marks
pub mod Rules
pub mod Flow
