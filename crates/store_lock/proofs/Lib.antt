pub mod Crossing
pub mod Lists
pub mod Keeping
pub mod Dealing
pub mod Joining
pub mod Members
pub mod Closing
