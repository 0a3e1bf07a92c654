-- The definitions of the crate `slip_handed`.
pub mod Handed
