pub mod Readings
pub mod Memories
pub mod Fetched
pub mod Completed
pub mod Released
pub mod Accepted
pub mod Unique
pub mod Examples
