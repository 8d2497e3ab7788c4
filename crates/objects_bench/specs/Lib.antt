pub mod Folding
