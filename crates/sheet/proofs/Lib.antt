-- What the proofs of `sheet` share, and what its definitions promise.
pub mod Laws
pub mod Tables
pub mod Theorems
pub mod First
pub mod One
