pub mod Printed
pub mod Output
pub mod Promise
