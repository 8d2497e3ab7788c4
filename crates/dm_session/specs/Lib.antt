pub mod Frames
pub mod Inside
pub mod Stays
pub mod View
pub mod Working
