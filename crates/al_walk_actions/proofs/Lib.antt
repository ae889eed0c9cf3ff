pub mod Onward
pub mod Scans
pub mod TypeForms
pub mod Verbs
