pub mod Answered
pub mod CloseFrame
pub mod Gathered
pub mod Heads
pub mod Refused
pub mod Stages
pub mod Turn
