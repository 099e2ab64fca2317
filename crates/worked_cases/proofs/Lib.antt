mod Cases
mod Distances
