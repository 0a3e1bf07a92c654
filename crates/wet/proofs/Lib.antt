-- What the proofs of the two listings share, and what is proved of them.
pub mod Accepts
pub mod One
