pub mod Streams
pub mod Keys
pub mod Recovery
pub mod Sessions
pub mod Clients
