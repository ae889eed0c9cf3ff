pub mod Even
pub mod Within
pub mod Paths
pub mod Spelled
pub mod Extracting
