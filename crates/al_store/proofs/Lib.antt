mod Parts
mod Lives
mod Calls
