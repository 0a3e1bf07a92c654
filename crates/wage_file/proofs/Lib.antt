-- What the proofs here share, and what is promised of a whole wage file.
pub mod Laws
pub mod RunLaws
pub mod Exactly
pub mod Theorems
pub mod One
