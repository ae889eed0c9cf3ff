pub mod Asm
