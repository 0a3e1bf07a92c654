-- The definitions of the crate `desk_tally`.
pub mod Tallied
