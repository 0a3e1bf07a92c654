-- The laws of the crate `desk_judge`.
pub mod Theorems
pub mod One
