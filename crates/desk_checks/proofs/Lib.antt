-- The laws of the crate `desk_checks`.
pub mod One
