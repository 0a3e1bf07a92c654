-- What the proofs here share, and what is proved of every slip that is written.
pub mod Laws
pub mod Sizes
pub mod Theorems
pub mod One
