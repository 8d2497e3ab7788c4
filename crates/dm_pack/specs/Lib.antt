pub mod Entries
pub mod Filling
pub mod Measures
pub mod Laws
