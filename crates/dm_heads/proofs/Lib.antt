pub mod HeadLemmas
pub mod MoreBytes
pub mod BehindHeads
pub mod Pieces
pub mod Wanting
pub mod OneAnswer
pub mod FieldValues
pub mod Holding
