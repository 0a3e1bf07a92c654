-- What the proofs of `slip` share, and what its definitions promise.
pub mod Laws
pub mod Theorems
pub mod Plain
pub mod One
