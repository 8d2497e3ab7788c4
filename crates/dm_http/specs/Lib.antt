pub mod Texts
pub mod Posts
pub mod Replies
pub mod Serves
pub mod Laws
pub use Rattle.dm_heads.specs.Asking
pub use Rattle.dm_heads.specs.Receiving
