pub mod Visiting
pub mod Turning
pub mod Gathering
pub mod Listening
pub mod Serving
pub mod Counting
