pub mod FirstsAre
pub mod WrittenIs
