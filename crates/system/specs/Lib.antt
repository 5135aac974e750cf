pub mod Stages
pub mod System
