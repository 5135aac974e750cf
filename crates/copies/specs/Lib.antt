pub mod Copies
pub mod Weak
