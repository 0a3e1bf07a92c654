-- The definitions of the crate `tally`.
pub mod Tally
