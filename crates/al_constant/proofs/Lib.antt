mod ConstantsAre
mod Sizes
