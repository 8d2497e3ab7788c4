pub mod Numbered
pub mod Parted
pub mod Last
pub mod Pages
pub mod Short
pub mod Rest
