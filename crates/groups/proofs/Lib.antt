-- The laws of the crate `groups`.
pub mod Laws
pub mod Theorems
pub mod One
