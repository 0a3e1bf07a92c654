-- The laws of the crate `boundary`.
pub mod Laws
pub mod Theorems
pub mod One
