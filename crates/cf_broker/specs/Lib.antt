pub mod Nodes
pub mod Shards
pub mod Change
