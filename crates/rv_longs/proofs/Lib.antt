pub mod Longs
pub mod Widening
pub mod Conversions
