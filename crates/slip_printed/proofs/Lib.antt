-- The laws of the crate `slip_printed`.
pub mod Laws
pub mod Theorems
pub mod One
