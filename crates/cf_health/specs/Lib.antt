pub mod HealthAsks
