pub mod Reach
pub mod Picks
pub mod Owners
pub mod Plans
