-- The definitions of the crate `desk_slips`.
pub mod Slips
