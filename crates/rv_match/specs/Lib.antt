pub mod Following
pub mod Sense
pub mod Places
pub mod Match
pub mod Laid
pub mod Laws
