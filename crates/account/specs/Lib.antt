-- The definitions of the crate `account`.
pub mod Account
pub mod Answers
