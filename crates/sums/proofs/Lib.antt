-- What the proofs here and in the crates above share, and what is promised of `sums`.
pub mod Laws
pub mod Theorems
pub mod One
