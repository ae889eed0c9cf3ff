pub mod Does
pub mod Alike
pub mod Units
pub mod Chain
