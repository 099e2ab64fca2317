pub mod Timed
pub mod Narrowed
pub mod Steps
pub mod Mixed
