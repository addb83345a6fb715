pub mod Prefixes
pub mod Sums
pub mod Steps
pub mod Told
pub mod Gaining
