pub mod Phase
pub mod Admission
