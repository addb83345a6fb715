pub mod Drawing
pub mod Scene
pub mod Steps
pub mod Conversation
pub mod Shown
