pub mod Flow
pub mod Numbers
