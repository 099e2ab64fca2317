pub mod Scales
pub mod ScaleLaws
pub mod Apart
