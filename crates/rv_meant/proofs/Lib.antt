mod NoPlace
mod Opened
mod Homes
mod Classes
mod Bounds
mod Made
