pub mod Journals
pub mod Entries
pub mod Trees
pub mod Sound
pub mod Giving
pub mod Marks
pub mod Notes
pub mod Laws
