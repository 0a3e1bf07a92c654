-- What is promised of `wage_writer`, and the laws that its proofs share.
pub mod Laws
pub mod Refusals
pub mod Theorems
pub mod One
