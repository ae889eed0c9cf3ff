pub mod Queues
pub mod Procs
pub mod Homes
pub mod Table
pub mod Sound
pub mod Kept
pub mod Lending
pub mod Starting
