pub mod Within
pub mod LaidOut
