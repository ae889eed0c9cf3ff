mod Units
mod Words
mod Sensible
mod Compiling
