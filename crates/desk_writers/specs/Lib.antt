-- The definitions of the crate `desk_writers`.
pub mod Writes
