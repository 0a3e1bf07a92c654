-- The definitions of the crate `bare_line`.
pub mod Bare
