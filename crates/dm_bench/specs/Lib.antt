pub mod Words
pub mod Start
pub mod Messages
pub mod Running
pub mod Workload
