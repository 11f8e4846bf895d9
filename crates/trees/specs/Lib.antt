pub mod Faults
pub mod Files
pub mod Kinds
pub mod Numbers
pub mod Tree
