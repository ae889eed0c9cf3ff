pub mod Computing
pub mod EveryForm
pub mod General
pub mod InTurn
pub mod Made
pub mod Targets
pub mod Wanted
