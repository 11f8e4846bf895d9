pub mod Answer
pub mod Drive
pub mod Faults
pub mod Listing
pub mod Prices
