-- The definitions of the crate `boundary`.
pub mod Told
