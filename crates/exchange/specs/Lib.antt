pub mod Exchange
pub mod Pairs
