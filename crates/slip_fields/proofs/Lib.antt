-- What the proofs of `slip_fields` share, and what its definitions promise.
pub mod Accepted
pub mod Theorems
pub mod Plain
pub mod One
