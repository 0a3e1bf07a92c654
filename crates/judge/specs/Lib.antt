-- The definitions of the crate `judge`.
pub mod Judge
