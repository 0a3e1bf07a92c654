-- What the proofs of the crate `line` share, and what is proved of its definitions.
pub mod Laws
pub mod Held
pub mod Theorems
pub mod One
