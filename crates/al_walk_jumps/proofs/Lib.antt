pub mod Labels
pub mod Borders
pub mod GoingOn
pub mod JumpTargets
