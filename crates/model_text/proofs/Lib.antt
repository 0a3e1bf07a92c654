-- The laws of the crate `model_text`.
pub mod Theorems
pub mod One
