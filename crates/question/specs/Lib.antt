-- The definitions of the crate `question`.
pub mod Question
