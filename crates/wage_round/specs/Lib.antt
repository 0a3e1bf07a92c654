-- The definitions of the crate `wage_round`.
pub mod Round
