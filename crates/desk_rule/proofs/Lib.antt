pub mod Finishes
pub mod Examples
pub mod Table
pub mod Cut
