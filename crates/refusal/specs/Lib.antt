-- The definitions of the crate `refusal`.
pub mod Basics
pub mod Refusal
pub mod One
