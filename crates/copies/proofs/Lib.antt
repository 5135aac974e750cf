pub mod Examples
pub mod Copies
pub mod Weak
pub mod Runs
pub mod Agree
pub mod Unordered
pub mod Exchanges
