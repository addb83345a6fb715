pub mod Asides
pub mod Held
pub mod HubAsides
pub mod Readings
