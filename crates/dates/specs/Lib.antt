-- The definitions of the crate `dates`.
pub mod Dates
