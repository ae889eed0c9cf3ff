pub mod Later
pub mod Output
