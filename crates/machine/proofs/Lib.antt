pub mod Examples
pub mod Lists
pub mod Standing
pub mod Onward
pub mod Seen
pub mod Jobs
pub mod Hosted
pub mod Finishing
