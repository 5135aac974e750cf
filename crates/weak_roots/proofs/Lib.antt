pub mod Laying
pub mod Degrees
