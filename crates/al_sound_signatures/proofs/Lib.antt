mod Types
mod Inside
pub mod SignaturesAre
