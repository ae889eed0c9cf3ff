pub mod ByConstants
pub mod Printed
pub mod SameParts
pub mod Stepping
