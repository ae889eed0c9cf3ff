pub mod Frames
pub mod StepText
