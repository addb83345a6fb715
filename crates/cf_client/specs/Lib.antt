pub mod AppItem
pub mod ClientCalls
pub mod ClientView
pub mod Shown
pub mod Draft
pub mod OneAnswer
pub mod OneMeaning
pub mod Texts
