pub mod Numbers
pub mod Places
pub mod Ways
pub mod Typed
pub mod Simple
pub mod Compound
pub mod Facts
pub mod NumbersDiffer
mod Gathered
pub mod FlowIs
