pub mod Links
pub mod Book
pub mod Named
