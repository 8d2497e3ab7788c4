pub mod Lengths
pub mod Taking
pub mod Answering
