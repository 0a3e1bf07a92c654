-- The laws of the crate `desk_slips`.
pub mod Laws
pub mod Theorems
pub mod One
