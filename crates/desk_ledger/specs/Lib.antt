-- The definitions of the crate `desk_ledger`.
pub mod Ledgers
