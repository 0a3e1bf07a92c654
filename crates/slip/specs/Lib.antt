-- The definitions of the crate `slip`.
pub mod Slip
