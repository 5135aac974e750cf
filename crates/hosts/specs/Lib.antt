pub mod Heard
pub mod Made
pub mod Exports
pub mod Lists
