-- The laws of the judge's record, and what is promised of it.
pub mod Laws
pub mod Theorems
pub mod One
