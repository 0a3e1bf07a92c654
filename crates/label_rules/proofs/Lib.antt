-- The laws of the crate `label_rules`.
pub mod Theorems
pub mod One
