-- The definitions of the crate `models`.
pub mod Every
pub mod Models
