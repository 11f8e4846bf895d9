pub mod Arcs
pub mod Branches
pub mod Decisions
pub mod Forks
pub mod Lawful
pub mod Layers
pub mod Parts
