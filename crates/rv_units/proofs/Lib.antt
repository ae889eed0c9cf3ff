pub mod Addresses
pub mod Zeroing
pub mod Zeros
pub mod Ones
pub mod Loops
pub mod Runs
pub mod Values
pub mod Scanning
