pub mod Flow
pub mod Checked
