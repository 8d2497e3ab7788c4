pub mod Shortest
pub mod Reading
pub mod Fronts
pub mod Functions
