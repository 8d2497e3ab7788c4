pub mod Ahead
pub mod Faults
pub mod Rises
