-- What the proofs here share, and what is promised of the codes.
pub mod Laws
pub mod Theorems
pub mod One
