-- The laws of the crate `desk_record`.
pub mod Theorems
pub mod One
