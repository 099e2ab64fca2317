pub mod Numerals
pub mod Parts
pub mod Lines
