-- The laws of the crate `desk_version`.
pub mod One
