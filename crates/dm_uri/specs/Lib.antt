pub mod Names
pub mod Grammar
pub mod Refusals
pub mod Reading
pub mod Laws
