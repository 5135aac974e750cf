pub mod State
pub mod Algorithm
pub mod Reading
pub mod Promise
