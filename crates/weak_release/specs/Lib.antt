pub mod Release
pub mod Plan
pub mod Written
