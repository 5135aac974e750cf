pub mod Judging
pub mod Sliding
pub mod Putting
