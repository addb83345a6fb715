pub mod Playing
pub mod Turns
pub mod Waiting
mod Giving
