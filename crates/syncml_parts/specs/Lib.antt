pub mod Numbering
pub mod Packing
pub mod Lends
pub mod Pages
