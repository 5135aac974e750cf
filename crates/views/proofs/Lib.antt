pub mod Recounts
pub mod Finishing
pub mod Numbers
pub mod Turns
pub mod Idle
pub mod Answers
pub mod Examples
