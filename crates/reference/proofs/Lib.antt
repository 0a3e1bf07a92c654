-- The laws of the crate `reference`.
pub mod Laws
pub mod Theorems
pub mod Before
pub mod One
