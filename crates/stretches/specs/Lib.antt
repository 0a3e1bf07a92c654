-- The definitions of the crate `stretches`.
pub mod Mirror
