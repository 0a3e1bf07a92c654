-- What the proofs of `standing_text` share, and what its definitions promise.
pub mod Laws
pub mod Theorems
pub mod One
