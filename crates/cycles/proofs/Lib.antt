pub mod First
pub mod Marks
pub mod Walks
pub mod Ranks
