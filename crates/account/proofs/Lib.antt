-- What the proofs of `account` share, and what its definitions promise.
pub mod Runs
pub mod Laws
pub mod Theorems
pub mod One
