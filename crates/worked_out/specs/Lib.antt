-- The definitions of the crate `worked_out`.
pub mod Amounts
