pub mod Moves
pub mod Taking
pub mod Apart
pub mod Drafting
pub mod Meaning
pub mod Refusing
