pub mod Groups
pub mod Held
pub mod Net
pub mod Runs
pub mod Examples
