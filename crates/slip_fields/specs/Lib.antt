-- The definitions of the crate `slip_fields`.
pub mod Fields
pub mod Sizes
