-- The definitions of the crate `standing_slip`.
pub mod Filled
pub mod Steps
