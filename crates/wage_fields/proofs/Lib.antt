-- What the proofs here share, and what is promised of a line's places.
pub mod Laws
pub mod Theorems
pub mod Plain
pub mod One
