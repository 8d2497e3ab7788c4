pub mod Held
pub mod Beside
pub mod Low
pub mod Out
pub mod Filling
pub mod WithoutJob
