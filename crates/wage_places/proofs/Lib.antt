-- The laws of the crate `wage_places`.
pub mod Laws
pub mod Theorems
pub mod One
