pub mod Doing
pub mod Feeding
pub mod Leaves
pub mod Promises
pub mod Soundness
pub mod Trees
