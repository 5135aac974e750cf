pub mod Heard
pub mod Exported
pub mod Exports
pub mod Untouched
