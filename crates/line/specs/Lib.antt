pub mod Batches
pub mod Queues
pub mod Rings
pub mod Rules
