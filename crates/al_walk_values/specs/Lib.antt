pub mod Fits
pub mod CallForms
