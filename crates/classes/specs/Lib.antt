-- The definitions of the crate `classes`.
pub mod Classes
