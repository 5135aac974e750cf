pub mod Least
pub mod Search
pub mod Form
