pub mod Fields
pub mod Growing
pub mod Laws
pub mod Laying
pub mod Soundness
pub mod Start
pub mod TreeText
