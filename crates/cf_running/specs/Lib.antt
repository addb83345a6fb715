pub mod Examples
pub mod Running
pub mod Server
pub mod ShardLogs
pub mod WasRead
