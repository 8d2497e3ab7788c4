pub mod Drawing
pub mod Leading
pub mod Beginning
pub mod Delivering
pub mod Summing
mod Naming
mod Growing
mod Workloads
