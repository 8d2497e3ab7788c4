pub mod Extents
pub mod Messages
pub mod Taking
pub mod Asking
pub mod Receiving
pub mod Laws
