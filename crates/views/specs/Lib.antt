pub mod Damage
pub mod Range
pub mod Recorded
pub mod Graphs
pub mod AtRest
pub mod Finishing
pub mod Numbers
