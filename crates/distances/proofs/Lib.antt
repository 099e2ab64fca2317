pub mod Firsts
pub mod Covering
pub mod Offering
pub mod Turning
pub mod Finding
pub mod Searched
pub mod Asked
pub mod Means
