pub mod Homes
pub mod Jumps
pub mod Pieces
pub mod Laying
pub mod Runs
pub mod Laws
