pub mod Steps
pub mod Parting
pub mod Reading
pub mod Spelling
pub mod Writing
