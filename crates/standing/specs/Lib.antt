-- The definitions of the crate `standing`.
pub mod Standing
