pub mod Passes
pub mod View
pub mod ShardRule
pub mod ShardStep
pub mod Together
