pub mod ByForm
pub mod Forms
pub mod InBodies
pub mod Joined
pub mod Noting
pub mod Others
pub mod Rows
pub mod Tables
