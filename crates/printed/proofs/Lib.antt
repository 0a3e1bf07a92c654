-- The laws of the crate `printed`.
pub mod Laws
pub mod Theorems
pub mod One
