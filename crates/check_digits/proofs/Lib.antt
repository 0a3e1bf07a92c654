-- What the proofs of `check_digits` share, and what its definitions promise.
pub mod Laws
pub mod Theorems
pub mod One
