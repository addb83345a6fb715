pub mod Seen
pub mod Lending
pub mod ReadAnswers
pub mod Listings
pub mod Sound
pub mod Speaking
pub mod Calls
