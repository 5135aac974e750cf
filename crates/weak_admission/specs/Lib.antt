pub mod Admission
pub mod Count
