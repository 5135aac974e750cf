pub mod Heard
pub mod Exported
pub mod Made
pub mod Exports
pub mod Untouched
