-- The definitions of the crate `wage_writer`.
pub mod Writer
