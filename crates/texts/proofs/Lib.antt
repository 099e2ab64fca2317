pub mod ItemSteps
pub mod ClockSteps
pub mod BoxSteps
pub mod LineWalks
pub mod LineFacts
pub mod StateFacts
pub mod Runs
pub mod Telling
