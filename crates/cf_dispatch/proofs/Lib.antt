pub mod Batches
pub mod Taking
pub mod Waits
