pub mod Graph
pub mod Conditions
pub mod Decide
pub mod Check
pub mod Stripping
pub mod Successors
pub mod Lookup
pub mod Tables
