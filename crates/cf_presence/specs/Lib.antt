pub mod Presence
pub mod Maps
pub mod UserCounts
