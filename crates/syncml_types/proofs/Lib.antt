pub mod Bare
pub mod Given
pub mod Counts
pub mod Pieces
pub mod Fitting
pub mod Zeros
