pub mod Firsts
pub mod Lookups
pub mod Written
