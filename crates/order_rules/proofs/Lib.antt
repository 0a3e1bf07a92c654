-- The laws of the crate `order_rules`.
pub mod Theorems
pub mod One
