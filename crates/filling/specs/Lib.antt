-- The definitions of the crate `filling`.
pub mod Filling
pub mod Claims
