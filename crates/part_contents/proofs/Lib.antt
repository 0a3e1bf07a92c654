-- The laws of the crate `part_contents`.
pub mod Laws
pub mod One
