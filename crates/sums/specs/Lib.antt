-- The definitions of the crate `sums`.
pub mod Sums
