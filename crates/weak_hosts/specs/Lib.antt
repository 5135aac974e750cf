pub mod Heard
pub mod Exports
pub mod Lists
