pub mod Remarks
pub mod Unreadable
