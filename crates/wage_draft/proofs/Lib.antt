-- What is promised of `wage_draft`, and the laws that its proofs share.
pub mod Laws
pub mod Theorems
pub mod One
