pub mod Calling
pub mod Listed
pub mod Ways
pub mod Starting
