-- What the proofs of `standing_slip` share, and what its definitions promise.
pub mod Laws
pub mod Theorems
pub mod One
