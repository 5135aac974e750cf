pub mod Readings
pub mod Memories
pub mod Lists
pub mod Buffers
pub mod RoundRobin
pub mod ItemExamples
