-- What the proofs here share, and what is proved of every listing.
pub mod Laws
pub mod Theorems
pub mod One
