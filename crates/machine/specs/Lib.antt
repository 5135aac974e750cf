pub mod Machine
pub mod Standing
pub mod Seen
pub mod Runs
pub mod Jobs
pub mod Hosted
pub mod Fetches
