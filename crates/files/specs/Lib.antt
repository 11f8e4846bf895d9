pub mod Faults
pub mod Judging
pub mod Line
pub mod Pricing
pub mod Reading
