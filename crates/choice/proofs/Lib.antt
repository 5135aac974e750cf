-- That what is chosen and what is found is what the properties say, and that nothing else has those properties.
pub mod Examples
pub mod Least
pub mod Candidates
pub mod Search
pub mod Form
