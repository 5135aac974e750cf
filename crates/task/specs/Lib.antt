pub mod Types
pub mod Phases
pub mod Refusals
pub mod Rows
pub mod Entries
