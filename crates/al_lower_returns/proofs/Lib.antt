pub mod Returns
pub mod Begins
pub mod Prologue
