pub mod SeenObjects
pub mod Takings
pub mod Together
