mod Counted
pub mod Told
pub mod Words
