pub mod Told
pub mod Streams
pub mod Calls
pub mod Doors
pub mod Updates
pub mod Memory
pub mod Logs
