pub mod Told
pub mod Starts
