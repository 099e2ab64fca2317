pub mod Entries
pub mod Lines
pub mod Adding
pub mod Reading
pub mod Finding
pub mod Lists
