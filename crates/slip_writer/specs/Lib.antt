-- The definitions of the crate `slip_writer`.
pub mod Writer
pub mod Steps
pub mod Claims
