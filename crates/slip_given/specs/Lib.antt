-- The definitions of the crate `slip_given`.
pub mod Given
