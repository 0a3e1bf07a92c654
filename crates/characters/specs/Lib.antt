-- The definitions of the crate `characters`.
pub mod Characters
pub mod Answers
