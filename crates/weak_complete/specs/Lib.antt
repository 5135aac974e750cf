pub mod Complete
pub mod Planned
pub mod Written
