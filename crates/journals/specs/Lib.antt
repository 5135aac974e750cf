pub mod Journal
pub mod Net
pub mod Runs
