pub mod Known
pub mod Sending
pub mod Kept
pub mod Receiving
pub mod Notes
pub mod Chains
