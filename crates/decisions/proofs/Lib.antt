pub mod Carried
pub mod Decided
pub mod Ends
pub mod Forks
pub mod Once
pub mod Parts
pub mod Search
