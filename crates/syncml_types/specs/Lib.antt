pub mod Message
pub mod Verbs
pub mod Canonical
pub mod Lengths
pub mod Fitness
