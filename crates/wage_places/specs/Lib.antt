-- The definitions of the crate `wage_places`.
pub mod Places
