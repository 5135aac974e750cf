pub mod Allowed
pub mod Counts
pub mod Exchange
pub mod Pairs
pub mod Examples
pub mod Least
pub mod Theorem
