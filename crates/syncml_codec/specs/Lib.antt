pub mod Listing
pub mod Messages
pub mod Ranges
pub mod Decoding
pub mod Laws
