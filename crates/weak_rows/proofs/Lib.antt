pub mod Cells
pub mod Laws
pub mod Copies
