pub mod ScheduleText
pub mod ScheduleRead
pub mod Simulation
pub mod WrittenTrace
pub mod Status
