pub mod Asking
pub mod PrintsAre
