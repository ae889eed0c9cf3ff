pub mod Procs
pub mod Channels
pub mod Grows
pub mod Counting
