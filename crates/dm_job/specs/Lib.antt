pub mod Answers
pub mod Commands
pub mod Grammar
pub mod Laws
pub mod Measures
pub mod Reading
pub mod Sound
pub mod Texts
