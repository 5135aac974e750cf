pub mod Prefixes
pub mod Places
pub mod Edges
