-- The definitions of the crate `text`.
pub mod Bytes
pub mod Digits
pub mod Split
pub mod Lines
pub mod Stands
