pub mod PhaseTable
pub mod Rows
pub mod Counters
pub mod Said
