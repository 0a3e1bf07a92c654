-- The laws of the crate `desk_writers`.
pub mod Laws
pub mod One
