pub mod Known
pub mod Numbers
pub mod Pending
mod FieldValues
mod HexDigits
mod Lanes
mod HexReading
