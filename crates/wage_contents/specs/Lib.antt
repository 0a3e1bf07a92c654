-- The definitions of the crate `wage_contents`.
pub mod Contents
