-- The laws of a step, and what is promised of `judge`.
pub mod Laws
pub mod Theorems
pub mod One
