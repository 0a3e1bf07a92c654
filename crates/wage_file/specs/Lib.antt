-- The definitions of the crate `wage_file`.
pub mod Right
pub mod File
