pub mod Asking
pub mod Histories
pub mod Seen
pub mod Told
