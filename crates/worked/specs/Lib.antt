pub mod TwoStops
