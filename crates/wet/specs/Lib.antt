-- The definitions of the crate `wet`.
pub mod Wet
