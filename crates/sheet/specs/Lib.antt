-- The definitions of the crate `sheet`.
pub mod Sheet
pub mod Mirror
pub mod Claims
