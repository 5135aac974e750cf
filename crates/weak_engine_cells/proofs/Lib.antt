pub mod Laws
pub mod Cells
