pub mod Putting
pub mod FirstAsk
pub mod Served
pub mod Unread
