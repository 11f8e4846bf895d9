pub mod Calls
pub mod Faults
pub mod Logs
pub mod Progress
pub mod Promise
pub mod States
