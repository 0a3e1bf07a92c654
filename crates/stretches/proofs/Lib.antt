-- The laws of the crate `stretches`.
pub mod Laws
pub mod One
