pub mod Commands
pub mod Beginning
pub mod Farewells
pub mod Ready
pub mod Laws
