pub mod Examples
pub mod Sums
pub mod Spread
pub mod Windows
