pub mod Deadlines
pub mod Narrowing
pub mod Restrictions
pub mod LayersSound
pub mod Theorems
