pub mod Typed
pub mod Trees
pub mod Programs
pub mod Laws
