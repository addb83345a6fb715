pub mod ArrivalBuffer
pub mod Meaning
pub mod Stored
