pub mod After
pub mod Rules
pub mod Same
pub mod Lowered
