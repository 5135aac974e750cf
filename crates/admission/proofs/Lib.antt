pub mod Phase
pub mod Laws
pub mod Rows
