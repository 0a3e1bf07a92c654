-- What is promised of `worked_out`, and the laws that its proofs share.
pub mod Laws
pub mod Theorems
pub mod One
