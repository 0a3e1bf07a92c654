-- What the proofs here share, and what is promised of written wage files.
pub mod Laws
pub mod Theorems
