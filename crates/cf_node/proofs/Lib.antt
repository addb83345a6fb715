pub mod Carrying
pub mod Comparing
pub mod Delivering
pub mod Growing
pub mod Handing
pub mod Owning
pub mod Refusing
pub mod Waiting
