pub mod Fresh
pub mod LineRead
pub mod Running
pub mod ScheduleLine
pub mod Seen
pub mod Shown
pub mod Stopping
pub mod Word
