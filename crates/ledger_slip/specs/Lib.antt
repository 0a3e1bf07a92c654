-- The definitions of the crate `ledger_slip`.
pub mod Ledger
