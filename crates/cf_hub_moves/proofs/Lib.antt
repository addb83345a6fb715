pub mod Among
pub mod AmongGrows
pub mod Closing
pub mod Holding
pub mod HubAsides
pub mod Later
pub mod Readings
