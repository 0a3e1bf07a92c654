-- The laws of the crate `desk_wet`.
pub mod One
