-- The laws of the crate `slip_given`.
pub mod Laws
pub mod One
