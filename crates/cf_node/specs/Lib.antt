pub mod Answered
pub mod Desk
pub mod Own
pub mod Ready
