-- The laws of the crate `group_rules`.
pub mod Theorems
pub mod One
