pub mod Slots
pub mod Site
pub mod Given
