pub mod Widths
pub mod Placing
pub mod Meeting
pub mod Laying
pub mod Beginning
pub mod Heading
pub mod Whole
pub mod Following
