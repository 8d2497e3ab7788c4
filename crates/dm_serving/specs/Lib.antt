pub mod Visits
pub mod Turns
pub mod Serves
pub mod Laws
