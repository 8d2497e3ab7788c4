pub mod Input
pub mod Events
pub mod Trace
pub mod Output
pub mod From
pub mod Laws
pub mod Refused
pub mod Room
