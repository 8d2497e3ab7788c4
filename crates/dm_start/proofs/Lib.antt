pub mod Devices
mod Laid
mod Limits
mod Putting
pub mod Sections
pub mod Sound
mod Spots
mod StartTrees
mod TextWalk
mod Twice
