-- The definitions of the crate `condition`.
pub mod Record
