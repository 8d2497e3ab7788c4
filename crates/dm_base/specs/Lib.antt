pub mod Outside
pub mod Memory
pub mod Lines
pub mod Fields
pub mod Lends
pub mod Laws
pub mod Limits
