pub mod CmdIds
pub mod Checks
pub mod Standings
pub mod Headers
pub mod Rising
pub mod Views
pub mod Laws
