pub mod Gathering
pub mod Seen
pub mod Changes
pub mod InPlace
pub mod Inside
pub mod Laws
