-- The definitions of the crate `verdict`.
pub mod Verdict
