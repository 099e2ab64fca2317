pub mod Rows
pub mod Firsts
pub mod Covers
pub mod Turns
pub mod Finds
pub mod Searching
pub mod Listing
