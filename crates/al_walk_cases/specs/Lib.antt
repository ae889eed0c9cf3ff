pub mod CaseLists
pub mod Fits
