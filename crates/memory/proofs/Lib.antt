pub mod Fields
pub mod Shape
pub mod Examples
