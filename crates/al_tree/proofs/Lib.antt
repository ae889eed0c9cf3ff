pub mod Turns
pub mod Law
pub mod Verdicts
pub mod PartVerdicts
pub mod Ranges
pub mod ConstantsAre
pub mod Numbered
