pub mod Family
pub mod Field
pub mod Memory
pub mod Updates
pub mod Shape
