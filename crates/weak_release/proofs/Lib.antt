pub mod Plan
pub mod Written
pub mod Whole
