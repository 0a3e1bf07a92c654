-- The laws of the crate `desk_standing`.
pub mod Laws
pub mod One
