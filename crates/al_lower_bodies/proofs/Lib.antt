pub mod Bodies
pub mod Forms
pub mod Tests
pub mod Storing
pub mod Effects
pub mod Starting
pub mod Fors
