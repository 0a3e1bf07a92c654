-- What the proofs of `characters` share, and what its definitions promise.
pub mod Laws
pub mod Theorems
pub mod One
