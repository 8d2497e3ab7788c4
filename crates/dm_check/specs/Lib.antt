pub mod Receiving
pub mod Answers
pub mod Kept
