pub mod ZoneCases
pub mod DistanceCases
