mod Trues
mod Kept
mod Whole
