pub mod Queue
pub mod Turns
