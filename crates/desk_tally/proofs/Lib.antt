-- The laws of the crate `desk_tally`.
pub mod Contract
pub mod One
