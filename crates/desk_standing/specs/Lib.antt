-- The definitions of the crate `desk_standing`.
pub mod Standings
