-- The laws of the crate `slip_handed`.
pub mod Amounts
pub mod Laws
pub mod One
