pub mod Scaled
pub mod Chances
pub mod FirstRows
pub mod ZoneBoxes
