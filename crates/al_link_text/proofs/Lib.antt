pub mod Alike
pub mod Slices
pub mod TextsAre
