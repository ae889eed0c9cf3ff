pub mod Again
pub mod Found
pub mod Fronts
pub mod Lists
pub mod Numbers
pub mod Rows
