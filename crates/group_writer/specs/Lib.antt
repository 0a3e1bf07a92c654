-- The definitions of the crate `group_writer`.
pub mod GroupWriter
