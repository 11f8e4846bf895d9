pub mod Formed
pub mod OnWay
pub mod Orders
pub mod Plans
pub mod Steps
pub mod Visits
