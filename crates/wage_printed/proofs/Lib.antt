-- The theorems of the crate `wage_printed`.
pub mod Theorems
pub mod One
