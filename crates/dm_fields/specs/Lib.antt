pub mod Fields
pub mod Refusing
