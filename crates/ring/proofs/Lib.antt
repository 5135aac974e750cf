pub mod Ends
pub mod Queues
pub mod Laws
pub mod Inside
