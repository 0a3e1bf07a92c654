-- The definitions of the crate `check_digits`.
pub mod CheckDigit
pub mod Answers
pub mod Mirror
