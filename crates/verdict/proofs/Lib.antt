pub mod Stepping
pub mod Verdicts
pub mod Walks
