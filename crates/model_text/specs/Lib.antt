-- The definitions of the crate `model_text`.
pub mod Texts
