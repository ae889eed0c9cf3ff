mod Forms
mod Channels
mod Jumps
mod Loops
mod Storage
mod Words
