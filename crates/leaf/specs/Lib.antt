pub mod Answer
pub mod Faults
pub mod Fields
pub mod Held
pub mod Judges
pub mod Record
pub mod Rule
pub mod Stored
