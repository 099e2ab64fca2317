pub mod Puts
pub mod Rows
pub mod Held
pub mod Texts
