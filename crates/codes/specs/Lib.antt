-- The definitions of the crate `codes`.
pub mod Codes
