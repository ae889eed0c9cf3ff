pub mod Answer
pub mod Place
