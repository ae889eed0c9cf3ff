pub mod Lending
pub mod Room
