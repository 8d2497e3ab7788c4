pub mod Outcomes
pub mod Updates
pub mod Finding
pub mod Table
pub mod Promises
pub mod Places
pub mod Laws
