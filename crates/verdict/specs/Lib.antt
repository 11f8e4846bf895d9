pub mod Faults
pub mod Judging
pub mod Lines
pub mod Nodes
