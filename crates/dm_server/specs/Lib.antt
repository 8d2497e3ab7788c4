pub mod Inside
pub mod View
pub mod Taking
pub mod Working
