pub mod Link
pub mod Rule
