-- The definitions of the crate `reference`.
pub mod Answers
pub mod Before
