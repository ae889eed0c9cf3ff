pub mod BodyParts
pub mod Rounds
