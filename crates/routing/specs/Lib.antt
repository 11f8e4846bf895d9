pub mod Lawful
pub mod Network
pub mod Routes
pub mod Tables
