-- The definitions of the crate `units`.
pub mod Units
