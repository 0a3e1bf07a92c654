-- The laws of the crate `desk_ledger`.
pub mod One
